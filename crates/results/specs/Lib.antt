-- What a call answers that writes what it made into a lent buffer, and the buffer after it; the laws of these.
-- Assumes nothing.
pub mod Results
pub mod ResultsLaws
pub mod Values
