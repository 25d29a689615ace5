-- What the proofs of several functions use. Assumes nothing.
mod Passing
mod Refusals
