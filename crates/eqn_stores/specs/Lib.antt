-- What the code's values stand for, what its functions promise, and runs of stores. Assumes nothing.
pub mod Values
pub mod SetsLaws
