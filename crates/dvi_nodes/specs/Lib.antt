-- What the code's values stand for. Assumes nothing.
pub mod Values
