-- Laws that rest on which nodes can be written and on a rule's bytes in a body, and the worked examples. Assumes nothing.
mod Examples
pub mod BodyLaws
pub mod FrontLaws
pub mod LeadLaws
pub mod ProfileLaws
pub mod ReadingLaws
pub mod RoundTrip
pub mod SetNodes
pub mod Stores
