-- What is proved about reading and writing typed text (request 10). `Promises` is the page of the theorems; the other modules lead to
-- them.
-- Assumes nothing.
pub mod Promises
pub mod Plain
pub mod SpelledBytes
pub mod ReadsBack
pub mod Known
pub mod TidyLaws
pub mod WritingLaws
pub mod WritableLaws
pub mod WrittenLaws
pub mod TextLaws
pub mod OnlySo
pub mod RoundTrip
pub mod TokenPlaces
pub mod Refusals
pub mod Sizes
pub mod Room
pub mod LongText
