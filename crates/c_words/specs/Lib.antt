-- What the calls for C give, in words, and the laws of these. Assumes nothing.
pub mod Words
pub mod WordsLaws
