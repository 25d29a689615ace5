-- What the proofs of several functions use; in NamesLaws the laws of the name table, in WithinLaws those of places. Assumes nothing.
pub mod NamesLaws
pub mod WithinLaws
mod KindLaws
mod WalkLaws
mod SearchLaws
mod TableLaws
mod UnknownLaws
mod FirstsLaws
