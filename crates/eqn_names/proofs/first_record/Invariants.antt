-- No record passed was picked, so that the search goes on as from where it began. The measure is what is left.
-- Assumes nothing.
use mathlib.Core.Path.{◌≡◌}
use mathlib.Core.List.{List}
use Prim.Native.Nat.{ℕ, ◌-◌}
use denote.Ref.{Bor}
use lib.ListN.{length}
use Rattle.std.specs.Prelude.{Option}
use Rattle.eqn_names.specs.declared.Symbol.{Symbol}
use Rattle.eqn_names.specs.declared.Range.{Range}
use Rattle.eqn_names.specs.Search.{Search}
use Rattle.eqn_names.proofs.first_record.Given as goal

-- what the search finds from the loop's place on, it finds from where it began
abbrev pub invariant-loop-at : goal.invariant-loop-at
invariant-loop-at g l =
    (o : Option (Range × Symbol)) → Search (λ w symbol b. (x : Bor (List ℕ)) × (x.now ≡ w) × g.F.Fn.post l.picks (x, (symbol, tt)) b) l.names l.at o →
    Search (λ w symbol b. (x : Bor (List ℕ)) × (x.now ≡ w) × g.F.Fn.post l.picks (x, (symbol, tt)) b) l.names l.from o

abbrev pub decreases-loop-at : goal.decreases-loop-at
decreases-loop-at g l = length l.names - l.at
