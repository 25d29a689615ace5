use Prim.Native.Nat.{◌-◌}
use lib.ListN.{length}
use Rattle.eqn_check.proofs.Walking.{Walking}
use Rattle.eqn_check.proofs.windows.pass.Given as goal

abbrev pub invariant-loop-fault : goal.invariant-loop-fault
invariant-loop-fault l = Walking l.text l.base l.stages l.stage l.depth l.deepest l.at

abbrev pub decreases-loop-fault : goal.decreases-loop-fault
decreases-loop-fault l = length l.text - l.at
