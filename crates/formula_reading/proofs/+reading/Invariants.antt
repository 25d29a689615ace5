-- The reading's measures and invariants. The measure is five times the length of what is read, and one more for each function of the cycle that
-- is above `read_field`. A choice says what the lists that are left say in turn; a list says what its rest from `at` on says, `at` later.
-- Assumes nothing.
use mathlib.Core.Path.{◌≡◌}
use Prim.Native.Nat.{◌+◌, ◌-◌, ◌*◌, ◌≤◌}
use lib.ListN.{length, drop}
use Rattle.formula.specs.Format.{long_format}
use Rattle.formula.specs.Places.{choice_lists}
use Rattle.formula.specs.Reading.{choice_at, read}
use Rattle.formula.specs.Values.{told}
use Rattle.formula_reading.specs.Values.{part_read_of}
use Rattle.formula_reading.proofs.VerdictLaws.{later, list_says, in_turn}
use Rattle.formula_reading.proofs.+reading.Given as goal

abbrev pub decreases-read_choice : goal.decreases-read_choice
decreases-read_choice l = 5 * length l.s.now + 2

abbrev pub decreases-read_field : goal.decreases-read_field
decreases-read_field l = 5 * length l.s.now

abbrev pub decreases-read_held : goal.decreases-read_held
decreases-read_held l = 5 * length l.s.now + 1

abbrev pub decreases-read_item : goal.decreases-read_item
decreases-read_item l = 5 * length l.s.now + 3

abbrev pub decreases-read_list : goal.decreases-read_list
decreases-read_list l = 5 * length l.s.now + 4

abbrev pub decreases-read_noad : goal.decreases-read_noad
decreases-read_noad l = 5 * length l.s.now + 2

abbrev pub invariant-read_choice-loop : goal.invariant-read_choice-loop
invariant-read_choice-loop l =
    (l.at ≤ length l.s) ×
    (part_read_of (choice_at long_format read l.levels l.s) ≡ in_turn (list_says l.levels l.s) (choice_lists - l.counter) l.at)

abbrev pub invariant-read_list-loop-at : goal.invariant-read_list-loop-at
invariant-read_list-loop-at l = (l.at ≤ length l.s) × (told (read l.levels l.s) ≡ later l.at (told (read l.levels (drop l.at l.s))))

abbrev pub decreases-read_list-loop-at : goal.decreases-read_list-loop-at
decreases-read_list-loop-at l = length l.s - l.at
