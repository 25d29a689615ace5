-- What the values of fields and lines stand for, how far they reach, and what a line, a field and a list come to, with the laws of
-- each. Assumes nothing.
pub mod Values
pub mod Bounds
pub mod Lines
pub mod Fields
pub mod Lists
pub mod ListLaws
pub mod FieldBoxLaws
pub mod FieldLaws
