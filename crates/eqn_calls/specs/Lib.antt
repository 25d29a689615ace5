-- The paper's number, place and size for each answer.
-- Assumes nothing.
pub mod Values
