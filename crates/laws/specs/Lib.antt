-- Laws of what the crates share without sharing a subject. A law about bytes is in `words`, one about signed numbers in `scaled`.
-- Assumes nothing.
pub mod Truths
pub mod Options
pub mod Lists
pub mod Cycles
