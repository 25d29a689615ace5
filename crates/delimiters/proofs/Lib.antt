-- Laws of the search as the code goes, worked examples, and that what the search takes is in the font. Assumes nothing.
mod LookingLaws
mod ChainLaws
mod Examples
pub mod FoundSigns
