-- How an index comes about. Assumes nothing.
mod BitLaws
mod BuildLaws
