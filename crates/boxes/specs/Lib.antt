-- What the rules share: styles, font parameters, sizes and places; how values of the code stand for theirs, and bounds. Assumes nothing.
pub mod Styles
pub mod Parameters
pub mod Boxes
pub mod Holding
pub mod Values
pub mod Bounds
