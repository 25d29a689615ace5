-- What the places that the code finds stand for, and the laws of cutting a text there.
-- Assumes nothing.
pub mod Values
pub mod CutLaws
