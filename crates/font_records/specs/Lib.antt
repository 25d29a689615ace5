-- The rules for CH records together. Those for each record are defined in `font`. Assumes nothing.
pub mod Rules
