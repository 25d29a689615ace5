-- The index of CH records, and laws for those who build one or are lent one. Assumes nothing.
pub mod Index
pub mod IndexLaws
pub mod BitLaws
pub mod TallyLaws
