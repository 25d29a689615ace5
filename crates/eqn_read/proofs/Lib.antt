-- Laws that the proofs cite.
-- Assumes nothing.
mod WroteLaws
mod MeantLaws
mod CutLaws
mod WordLaws
mod PrimaryLaws
mod ItemLaws
mod RowLaws
