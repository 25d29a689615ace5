-- `keep` meets its contract: the test of the definition.
-- Assumes nothing.
use mathlib.Core.Path.{sym}
use Rattle.eqn_names.proofs.FirstsLaws.{kept_stored, kept_early}
use Rattle.eqn_names.proofs.keep.Goals as goal

pub returns-then-at-firsts : goal.returns-then-at-firsts
returns-then-at-firsts c = let args = c.args in sym (kept_stored args.firsts.now args.h args.at c.if-at-firsts.true)

pub returns-else-at-firsts : goal.returns-else-at-firsts
returns-else-at-firsts c = let args = c.args in sym (kept_early args.firsts.now args.h args.at c.if-at-firsts.false)
