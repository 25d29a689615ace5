-- What the code's values stand for, and what its functions promise.
-- Assumes nothing.
pub mod Values
pub mod Writes
