-- The measure is eight times the length of what is written, and some more for each member upward. What has been written of a list so far is
-- `Reached`.
-- Assumes nothing.
use Prim.Native.Nat.{◌+◌, ◌-◌, ◌*◌}
use lib.ListN.{length}
use Rattle.eqn_write.proofs.ListLaws.{Reached}
use Rattle.eqn_write.proofs.writing.+writing.Given as goal

abbrev pub decreases-put_behind : goal.decreases-put_behind
decreases-put_behind l = 8 * length l.s.now + 3

abbrev pub decreases-put_fraction : goal.decreases-put_fraction
decreases-put_fraction l = 8 * length l.s.now + 5

abbrev pub decreases-put_group : goal.decreases-put_group
decreases-put_group l = 8 * length l.s.now + 8

abbrev pub decreases-put_item : goal.decreases-put_item
decreases-put_item l = 8 * length l.s.now + 6

abbrev pub decreases-put_list : goal.decreases-put_list
decreases-put_list l = 8 * length l.s.now + 7

abbrev pub decreases-put_operand : goal.decreases-put_operand
decreases-put_operand l = 8 * length l.s.now + 2

abbrev pub decreases-put_script : goal.decreases-put_script
decreases-put_script l = 8 * length l.s.now + 4

abbrev pub decreases-put_scripted : goal.decreases-put_scripted
decreases-put_scripted l = 8 * length l.s.now + 5

abbrev pub invariant-put_list-loop-from : goal.invariant-put_list-loop-from
invariant-put_list-loop-from l = Reached l.names l.s l.at l.initial.out l.from l.end l.out

abbrev pub decreases-put_list-loop-from : goal.decreases-put_list-loop-from
decreases-put_list-loop-from l = length l.s - l.from
