-- What the proofs of the functions use. Assumes nothing.
mod TextLaws
mod Examples
