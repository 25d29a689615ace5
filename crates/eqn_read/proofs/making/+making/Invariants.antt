-- The measure is eight times the levels, and one more for each of the functions upward. The invariant of the loop of `put_row`: of what is
-- left of a row, the whole follows (`RowLeft`).
-- Assumes nothing.
use Prim.Native.Nat.{◌+◌, ◌-◌, ◌*◌}
use lib.ListN.{length}
use Rattle.eqn_read.proofs.RowLaws.{RowLeft}
use Rattle.eqn_read.proofs.making.+making.Given as goal

abbrev pub decreases-put_atom : goal.decreases-put_atom
decreases-put_atom l = 8 * l.levels + 4

abbrev pub decreases-put_fields : goal.decreases-put_fields
decreases-put_fields l = 8 * l.levels + 3

abbrev pub decreases-put_item : goal.decreases-put_item
decreases-put_item l = 8 * l.levels + 6

abbrev pub decreases-put_operand : goal.decreases-put_operand
decreases-put_operand l = 8 * l.levels + 1

abbrev pub decreases-put_over : goal.decreases-put_over
decreases-put_over l = 8 * l.levels + 5

abbrev pub decreases-put_primary : goal.decreases-put_primary
decreases-put_primary l = 8 * l.levels

abbrev pub decreases-put_row : goal.decreases-put_row
decreases-put_row l = 8 * l.levels + 7

abbrev pub decreases-put_script : goal.decreases-put_script
decreases-put_script l = 8 * l.levels + 2

abbrev pub invariant-put_row-loop-from : goal.invariant-put_row-loop-from
invariant-put_row-loop-from l = RowLeft l.index l.s l.levels l.at l.initial.out l.from l.end l.out

abbrev pub decreases-put_row-loop-from : goal.decreases-put_row-loop-from
decreases-put_row-loop-from l = length l.s - l.from
