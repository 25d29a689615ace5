-- What a test of a chain goes by. Chains are defined in `font`. Assumes nothing.
pub mod Followed
