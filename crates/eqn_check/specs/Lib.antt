-- What the test of a text answers, and the stages that it keeps of the rows of a text.
-- Assumes nothing.
pub mod Values
pub mod Stages
pub mod Windows
