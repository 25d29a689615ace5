-- The worked examples; what a root holds. Assumes nothing.
mod Examples
pub mod HoldingLaws
