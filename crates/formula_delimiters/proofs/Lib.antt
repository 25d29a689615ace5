-- What the proofs of roots and fences use. Assumes nothing.
mod DelimiterLaws
