-- What the values of a search for a symbol stand for. Assumes nothing.
pub mod Values
