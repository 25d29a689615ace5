-- What the proofs of several methods use. Assumes nothing.
mod Stored
pub mod Linear
pub mod Made
