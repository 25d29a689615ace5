-- Limits set above and below an operator. Assumes nothing.
pub mod Limits
pub mod Values
pub mod Bounds
pub mod HoldingLaws
