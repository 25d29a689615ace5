-- A lookup in both tables; the order of keys; the words of a table, for its parameters; and worked tables. Assumes nothing.
pub mod LookupLaws
pub mod KeyLaws
mod WordLaws
mod Examples
