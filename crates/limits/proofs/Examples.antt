-- The worked example P12 of document 01, on numbers alone: a sum with a limit below it. An edit of a rule is refused here.
-- Assumes nothing.
use mathlib.Core.Bool.{true}
use mathlib.Core.Path.{◌≡◌, refl}
use mathlib.Core.Option.{none, some}
use lib.IntN.{pos}
use Rattle.scaled.specs.Length.{pick, max_ℤ, half}
use Rattle.boxes.specs.Parameters.{axis_height}
use Rattle.boxes.specs.Boxes.{char, char_size, Arranged, at, origin, no_own}
use Rattle.boxes.proofs.Bench.{bench, a, large_sum, minus, arranged}
use Rattle.nucleus.specs.Nucleus.{atom_nucleus}
use Rattle.limits.specs.Limits.{limited}

-- the sum in a display style, with a subscript
sum_limited : Arranged
sum_limited = limited bench 0 (atom_nucleus (axis_height bench 0) true true true (char large_sum)) none (some (char_size a))

sum_limited_is : sum_limited ≡ arranged 1_400 950 1_150 (at (pos 0) (pos 950)) origin (at (pos 450) (minus 1_050)) no_own
unfolding sum_limited bench pick max_ℤ half limited
sum_limited_is = refl
