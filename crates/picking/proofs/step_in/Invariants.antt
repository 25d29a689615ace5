use Prim.Native.Nat.{◌-◌}
use lib.ListN.{length}
use Rattle.picking.proofs.PickingLaws.{Along}
use Rattle.picking.proofs.step_in.Given as goal

abbrev pub invariant-loop-at : goal.invariant-loop-at
invariant-loop-at l = Along l.initial.current l.place l.s l.at l.current

abbrev pub decreases-loop-at : goal.decreases-loop-at
decreases-loop-at l = length l.s - l.at
