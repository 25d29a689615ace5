-- What the proofs of several functions use. Assumes nothing.
mod Stores
mod Moves
mod RunCases
mod Unmoved
