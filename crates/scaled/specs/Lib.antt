-- The definitions of lengths, the laws by which `omega` proves facts of ℤ, and what the operations
-- promise. Assumes nothing.
pub mod Length
pub mod Signed
pub mod Linear
pub mod Made
