-- What the proofs of the reading use. Assumes nothing.
mod VerdictLaws
