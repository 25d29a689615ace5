-- Superscripts and subscripts (rule 18), and candidates for a shift in the code. Assumes nothing.
pub mod Scripts
pub mod Values
pub mod Bounds
pub mod ClearanceLaws
