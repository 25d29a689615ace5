-- What the proofs of several functions use. Assumes nothing.
mod AlongLaws
mod ChoiceLaws
mod NoadDone
