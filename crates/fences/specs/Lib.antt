-- Fences. Assumes nothing.
pub mod Fences
pub mod Values
pub mod Bounds
pub mod HoldingLaws
