-- The worked example P12 of document 01, on numbers alone: the sum of a display style, with a subscript, as a limit or beside it.
-- An edit of a rule is refused here.
-- Assumes nothing.
use mathlib.Core.Bool.{Bool, true, false}
use mathlib.Core.Path.{◌≡◌, refl}
use lib.IntN.{pos}
use Rattle.scaled.specs.Length.{pick, max_ℤ, half}
use Rattle.boxes.specs.Parameters.{axis_height}
use Rattle.boxes.specs.Boxes.{char, at, no_own}
use Rattle.boxes.proofs.Bench.{bench, large_sum}
use Rattle.nucleus.specs.Nucleus.{Nucleus, atom_nucleus}

sum : Bool → Nucleus
sum limits = atom_nucleus (axis_height bench 0) true limits true (char large_sum)

-- centred on the axis, and no plain symbol to its scripts
sum_is : sum true
    ≡ record {
      size = record { width = pos 1_400; height = pos 950; depth = pos 450 };
      first = at (pos 0) (pos 950);
      δ = pos 0;
      is_plain = false;
      own = no_own;
    }
unfolding sum bench pick max_ℤ half
sum_is = refl
