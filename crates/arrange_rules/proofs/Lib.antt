-- The worked examples; how many own nodes an item has, and what it holds. Assumes nothing.
mod Examples
pub mod ArrangeLaws
pub mod HoldingLaws
