-- Laws of the definitions in specs/: of lists and lines, of the item at a place and on the page, of the ink and what stands clear. Assumes nothing.
pub mod Beyond
pub mod FieldInPlace
pub mod ItemOnPage
pub mod SettingLaws
pub mod Plain
pub mod Examples
pub mod Lines
pub mod FieldAlone
pub mod PickedLaws
pub mod PickedSet
pub mod FoundSymbols
pub mod Formed
pub mod InkLaws
pub mod BoxInk
pub mod Clearances
