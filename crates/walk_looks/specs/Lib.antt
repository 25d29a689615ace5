-- What the functions promise that look at items without setting them, and the laws of such looks. Assumes nothing.
pub mod Seen
pub mod PlaceLaws
pub mod TakenLaws
