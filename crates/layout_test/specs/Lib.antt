-- What the tests before the reading find. Assumes nothing.
pub mod Tested
