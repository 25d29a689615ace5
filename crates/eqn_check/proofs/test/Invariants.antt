use Prim.Native.Nat.{◌-◌}
use Rattle.eqn_check.proofs.Passes.{Least}
use Rattle.eqn_check.proofs.test.Given as goal

abbrev pub invariant-loop-base : goal.invariant-loop-base
invariant-loop-base l = Least l.text l.base l.least

abbrev pub decreases-loop-base : goal.decreases-loop-base
decreases-loop-base l = l.base-end - l.base
