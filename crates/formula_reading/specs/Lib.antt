-- What the reader says of a part of a formula. Assumes nothing.
pub mod Values
