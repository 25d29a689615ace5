-- The measure is the steps that are left.
use Rattle.font_chains.proofs.+goes_on.Given as goal

abbrev pub decreases-goes_on : goal.decreases-goes_on
decreases-goes_on l = l.steps
