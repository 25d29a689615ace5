-- What the steps of building an index leave. The index is defined in `font_index`. Assumes nothing.
pub mod Building
