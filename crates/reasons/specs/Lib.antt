-- What decided a shift; what makes its reason true. Assumes nothing.
pub mod Reasons
pub mod Stages
pub mod Values
pub mod ReasonsLaws
