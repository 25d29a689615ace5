-- Roots. Assumes nothing.
pub mod Roots
pub mod Values
pub mod Bounds
pub mod HoldingLaws
