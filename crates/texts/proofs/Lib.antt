-- What the proofs of the functions use. Assumes nothing.
mod DecimalLaws
mod Examples
