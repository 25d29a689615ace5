-- What the proofs of several functions use; in StageLaws the laws of the stages. Assumes nothing.
pub mod StageLaws
mod Slots
mod Rest
mod Walking
mod Passes
