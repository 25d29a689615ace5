-- The grammar of typed text (request 10), its reading token by token, whose laws are in proofs/, and how a text is split into the parts of
-- its derivation.
-- Assumes nothing.
pub mod Grammar
pub mod Parsing
pub mod Splits
pub mod SplitLaws
