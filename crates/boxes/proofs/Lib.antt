-- The numbers that the worked examples compute with. Assumes nothing.
pub mod Bench
