-- What the setters of the cycle ask and promise. Assumes nothing.
pub mod Walked
