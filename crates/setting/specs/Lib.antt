-- The box of a list, what is missing and what is too large; and how a list field stands in the whole; the item at a place, and on the page; the ink of nodes,
-- and what stands clear on the page. Assumes nothing.
pub mod Setting
pub mod Missing
pub mod Fitting
pub mod Frames
pub mod Paths
pub mod Beyond
pub mod FieldInPlace
pub mod Picked
pub mod ItemOnPage
pub mod Ink
