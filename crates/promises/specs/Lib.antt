-- Demands 1 to 3, and what each change request promises beyond them, as theorems over the definitions. `Promises` is the page that leads to
-- each; the others stand in the order in which they use each other.
-- Assumes nothing.
pub mod Accepting
pub mod FieldBytes
pub mod ListFields
pub mod ItemsOnPage
