-- The bytes that a tree is written in, and that there is one way to write it. Assumes nothing.
pub mod Spelling
pub mod SpellingLaws
