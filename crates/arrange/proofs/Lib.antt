-- How many own nodes an item has. Assumes nothing.
pub mod ArrangeLaws
