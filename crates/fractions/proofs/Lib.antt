-- The worked examples; that the reasons of a fraction are true, and what it keeps clear and holds. Assumes nothing.
mod Examples
pub mod ReasonsLaws
pub mod ClearanceLaws
