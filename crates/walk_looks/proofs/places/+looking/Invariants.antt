-- The measure is twice the length of what is looked at, and one more for a list. The loop's invariant is `Looked`.
-- Assumes nothing.
use Rattle.std.proofs.Common.{◌+◌, ◌-◌, ◌*◌, length}
use Rattle.spacing.specs.Values.{neighbour_as}
use Rattle.walk_looks.specs.PlaceLaws.{Looked}
use Rattle.walk_looks.proofs.places.+looking.Given as goal

abbrev pub decreases-look_at : goal.decreases-look_at
decreases-look_at l = 2 * length l.s.now

abbrev pub decreases-look_over : goal.decreases-look_over
decreases-look_over l = 2 * length l.s.now + 1

abbrev pub invariant-look_over-loop-at : goal.invariant-look_over-loop-at
invariant-look_over-loop-at l = Looked l.initial.current l.s l.at (neighbour_as l.first) l.current

abbrev pub decreases-look_over-loop-at : goal.decreases-look_over-loop-at
decreases-look_over-loop-at l = length l.s - l.at
