-- The rules for CH records, test by test. Assumes nothing.
mod RuleLaws
