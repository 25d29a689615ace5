-- What the proofs of both calls use. Assumes nothing.
mod Reported
