-- What the call for C that asks why gives, in words. Assumes nothing.
pub mod ReasonWords
