-- The text that shows an answer, its nodes, and what decided a shift. Assumes nothing.
pub mod Texts
