-- The worked examples; what scripts keep clear. Assumes nothing.
mod Examples
pub mod ClearanceLaws
