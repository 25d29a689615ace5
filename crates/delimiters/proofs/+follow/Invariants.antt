-- The measure of `follow` is the steps that are left.
-- Assumes nothing.
use Rattle.delimiters.proofs.+follow.Given as goal

abbrev pub decreases-follow : goal.decreases-follow
decreases-follow l = l.steps
