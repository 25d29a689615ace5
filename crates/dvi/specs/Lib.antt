-- The body of a page of DVI, which nodes can be written, the two forms of nodes, and what the writer and the reader answer.
-- Assumes nothing.
pub mod Commands
pub mod NumberLaws
pub mod Body
pub mod BodyLaws
pub mod Profile
pub mod Forms
pub mod Answers
pub mod ProfileLaws
pub mod FrontLaws
pub mod LeadLaws
pub mod Stores
pub mod ReadingLaws
pub mod RoundTrip
pub mod AnswerLaws
pub mod SetNodes
