-- Fractions; what decided a shift. Assumes nothing.
pub mod Fractions
pub mod Reasons
pub mod Stages
pub mod ClearanceLaws
