-- What an item comes to once its fields are set, and what stands in the buffer until then, with the laws of both. Assumes nothing.
pub mod Items
pub mod ItemLaws
pub mod Standing
pub mod LaidLaws
pub mod NoadLaws
