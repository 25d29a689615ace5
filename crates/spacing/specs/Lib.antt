-- The class of an item and its change, and the space between two atoms. Assumes nothing.
pub mod Classes
pub mod Spacing
pub mod Values
