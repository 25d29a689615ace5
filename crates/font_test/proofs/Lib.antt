-- The test of a table, test by test, and what the test of its chains goes by. Assumes nothing.
mod CheckLaws
mod FollowedLaws
