use mathlib.Core.List.{List}
use Prim.Native.Nat.{◌-◌, ◌≤◌}
use lib.ListN.{length}
use Rattle.eqn_names.specs.Names.{Name}
use Rattle.eqn_names.specs.Firsts.{Listed}
use Rattle.eqn_names.proofs.UnknownLaws.{Looked}
use Rattle.eqn_names.proofs.NameIndex.first_unknown.Given as goal

abbrev pub invariant-loop-at : goal.invariant-loop-at
invariant-loop-at l = (l.at ≤ length l.text) × ((ns : List Name) → Listed l.self.names.now l.self.firsts.now ns → Looked ns l.text l.at)

abbrev pub decreases-loop-at : goal.decreases-loop-at
decreases-loop-at l = length l.text - l.at
