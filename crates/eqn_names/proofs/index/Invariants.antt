use mathlib.Core.List.{List}
use Prim.Native.Nat.{◌-◌}
use lib.ListN.{length}
use Rattle.eqn_names.specs.Names.{Name}
use Rattle.eqn_names.proofs.TableLaws.{Tested}
use Rattle.eqn_names.proofs.FirstsLaws.{Indexed}
use Rattle.eqn_names.proofs.index.Given as goal

abbrev pub invariant-loop-at : goal.invariant-loop-at
invariant-loop-at l = (before : List Name) × Tested l.names l.at before × Indexed l.names l.firsts l.at before

abbrev pub decreases-loop-at : goal.decreases-loop-at
decreases-loop-at l = length l.names - l.at
