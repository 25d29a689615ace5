-- The measure is ten times the length of what is set, and one or two more for each member upward. What has been set of a list
-- so far is `Along`; of the loop from choice to choice: whatever had been set before it, more of that has been by now.
-- Assumes nothing.
use Rattle.std.proofs.Common.{ℕ, ◌+◌, ◌-◌, ◌*◌, List, length}
use Rattle.font.specs.Font.{font_in}
use Rattle.spacing.specs.Values.{neighbour_as}
use Rattle.walk.specs.Walked.{Along, StopsAt}
use Rattle.walk.proofs.lists.+setting.Given as goal

abbrev pub decreases-set_choice : goal.decreases-set_choice
decreases-set_choice l = 10 * length l.s.now + 2

abbrev pub decreases-set_field : goal.decreases-set_field
decreases-set_field l = 10 * length l.s.now + 1

abbrev pub decreases-set_given : goal.decreases-set_given
decreases-set_given l = 10 * length l.s.now

abbrev pub decreases-set_item : goal.decreases-set_item
decreases-set_item l = 10 * length l.s.now + 5

abbrev pub decreases-set_items : goal.decreases-set_items
decreases-set_items l = 10 * length l.s.now + 8

abbrev pub decreases-set_noad : goal.decreases-set_noad
decreases-set_noad l = 10 * length l.s.now + 4

abbrev pub decreases-set_onward : goal.decreases-set_onward
decreases-set_onward l = 10 * length l.s.now + 7

abbrev pub decreases-set_second : goal.decreases-set_second
decreases-set_second l = 10 * length l.s.now + 3

abbrev pub decreases-set_stretch : goal.decreases-set_stretch
decreases-set_stretch l = 10 * length l.s.now + 6

abbrev pub decreases-set_third : goal.decreases-set_third
decreases-set_third l = 10 * length l.s.now + 2

abbrev pub invariant-set_stretch-loop-at : goal.invariant-set_stretch-loop-at
invariant-set_stretch-loop-at l =
    Along (font_in l.font) (neighbour_as l.beyond) l.s l.line l.initial.buf l.at l.l l.buf

abbrev pub decreases-set_stretch-loop-at : goal.decreases-set_stretch-loop-at
decreases-set_stretch-loop-at l = length l.s - l.at

abbrev pub invariant-set_items-loop-at : goal.invariant-set_items-loop-at
invariant-set_items-loop-at l =
    ((b : List ℕ) → Along (font_in l.font) (neighbour_as l.beyond) l.s l.line b l.initial.at l.initial.l l.initial.buf → Along (font_in l.font) (neighbour_as l.beyond) l.s l.line b l.at l.l l.buf)
    × StopsAt l.s l.at

abbrev pub decreases-set_items-loop-at : goal.decreases-set_items-loop-at
decreases-set_items-loop-at l = length l.s - l.at
