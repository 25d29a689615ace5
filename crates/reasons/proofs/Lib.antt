-- That the reason of a shift is true. Assumes nothing.
pub mod ReasonsLaws
