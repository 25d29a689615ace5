-- The laws of the reading. Assumes nothing.
pub mod ReadLaws
pub mod ParsingLaws
