-- An item from the shapes of its fields, and how many own nodes it has. Assumes nothing.
pub mod Arrange
pub mod HoldingLaws
