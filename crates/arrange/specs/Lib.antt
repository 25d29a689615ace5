-- An item from the shapes of its fields, and how many own nodes it has; what decided its shifts. Assumes nothing.
pub mod Arrange
pub mod Values
pub mod Reasons
pub mod ReasonsLaws
