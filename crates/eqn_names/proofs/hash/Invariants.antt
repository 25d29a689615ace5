use mathlib.Core.Path.{◌≡◌}
use Prim.Native.Nat.{◌<◌}
use lib.ListN.{drop}
use Rattle.eqn_names.specs.Firsts.{places, hash_from, hash_of}
use Rattle.eqn_names.proofs.hash.Given as goal

abbrev pub invariant-loop-b : goal.invariant-loop-b
invariant-loop-b l = (l.h < places) × (hash_of l.name ≡ hash_from l.h (drop l.b-index l.name))
