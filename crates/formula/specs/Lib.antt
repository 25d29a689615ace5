-- A formula as bytes and as a tree, its reading, what the reader promises; the laws of these. Assumes nothing.
pub mod Format
pub mod Tree
pub mod Marks
pub mod Heads
pub mod Reading
pub mod Values
pub mod Places
pub mod Slices
pub mod FirstBytes
pub mod HeadLaws
pub mod ReadIn
pub mod ReadingLaws
pub mod PlacesLaws
pub mod FormatLaws
