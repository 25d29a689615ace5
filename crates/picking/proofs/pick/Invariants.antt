use Prim.Native.Nat.{◌-◌}
use Rattle.picking.proofs.PickingLaws.{Down}
use Rattle.picking.proofs.pick.Given as goal

abbrev pub invariant-loop-style : goal.invariant-loop-style
invariant-loop-style l = Down l.initial.current l.place l.s l.first l.end l.current

abbrev pub decreases-loop-style : goal.decreases-loop-style
decreases-loop-style l = l.end - l.first
