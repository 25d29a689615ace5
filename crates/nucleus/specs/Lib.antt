-- The nucleus of a base. Assumes nothing.
pub mod Nucleus
pub mod Values
pub mod Bounds
pub mod HoldingLaws
