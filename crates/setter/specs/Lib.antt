-- What the thin program answers.
-- Assumes nothing.
pub mod Thin
