-- What the tests of the reader and the writer come to. Assumes nothing.
pub mod ResultLaws
