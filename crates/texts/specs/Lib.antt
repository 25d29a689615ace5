-- Numbers and refusals as text, what the functions that write text promise, and the laws of text that is written piece by piece.
-- Assumes nothing.
pub mod Decimals
pub mod Refusals
pub mod Written
pub mod PutLaws
