-- The formula that a derivation means, the text that a formula is written as, and the answers of the reader and the writer; their laws, and
-- a worked example for each sentence of the request, which stand here because they refuse what the definitions must not become. The laws of
-- the tests, one after the other, are in proofs/.
-- Assumes nothing.
pub mod Meaning
pub mod MeaningLaws
pub mod Writing
pub mod Answers
pub mod SpelledLength
pub mod MadeLaws
pub mod Examples
