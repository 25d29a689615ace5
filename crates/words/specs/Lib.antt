-- Numbers as bytes: the definitions, and their laws. Assumes nothing.
pub mod Words
pub mod WordLaws
