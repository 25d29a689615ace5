-- What the functions promise that look for the item at a place, and that say what decided its shifts. Assumes nothing.
pub mod Picking
