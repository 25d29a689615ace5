-- A range of records that is halved: what is known of the records beside it, and the steps that are enough. Assumes nothing.
mod Halving
mod HalvingLaws
