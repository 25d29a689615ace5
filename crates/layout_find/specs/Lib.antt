-- What is found of a formula, and what follows for the entries. Assumes nothing.
pub mod Found
pub mod FoundLaws
