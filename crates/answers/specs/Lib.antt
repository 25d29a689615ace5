-- What measuring, setting and asking why answer, and what becomes of the words that a call is lent. The laws that the entries use, among them
-- how small an answer's numbers are, stand in proofs/. What follows for every input is in `promises`.
-- Assumes nothing.
pub mod Lent
pub mod Answers
pub mod Why
pub mod Small
