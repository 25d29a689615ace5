-- Variable delimiters: the search, how far it has come after each symbol, values of the code, and what the search promises.
-- Assumes nothing.
pub mod Delimiters
pub mod Looking
pub mod Values
pub mod DelimiterLaws
pub mod FoundSigns
