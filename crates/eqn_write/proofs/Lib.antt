-- Laws for the proofs: of stores, of tokens written one behind the other, and of the parts of a formula.
-- Assumes nothing.
mod StoreLaws
mod PutLaws
mod NameLaws
mod FormLaws
mod ItemLaws
mod FieldsLaws
mod ListLaws
mod KindLaws
