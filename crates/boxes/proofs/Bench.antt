-- The numbers that the worked examples of document 01 compute with: the bench table's parameters, alike at every size, and
-- the symbols of the examples.
-- Assumes nothing.
use mathlib.Core.List.{[], ◌∷◌}
use mathlib.Core.Option.{none}
use Prim.Native.Nat.{ℕ}
use lib.IntN.{ℤ, pos, neg_ℤ}
use lib.ListN.{get_or}
use Rattle.font.specs.Font.{Metrics}
use Rattle.boxes.specs.Parameters.{Parameters}
use Rattle.boxes.specs.Boxes.{Offset, Own, Arranged}

unfoldable pub bench : Parameters
bench size number =
    get_or (0 ∷ 0 ∷ 0 ∷ 0 ∷ 430 ∷ 1000 ∷ 0 ∷ 700 ∷ 400 ∷ 450 ∷ 690 ∷ 350 ∷ 420 ∷ 370 ∷ 290 ∷ 150 ∷ 250 ∷ 380 ∷ 50 ∷ 0 ∷ 0
    ∷ 250 ∷ 0 ∷ 0 ∷ 0 ∷ 0 ∷ 0 ∷ 0 ∷ 0 ∷ 40 ∷ 110 ∷ 170 ∷ 200 ∷ 600 ∷ 100 ∷ []) number 0

abbrev pub metrics : ℕ → ℕ → ℕ → ℕ → Metrics
metrics w h d italic = record { width = w; height = h; depth = d; italic = italic; successor = none }

abbrev pub a : Metrics
a = metrics 500 430 0 0

abbrev pub f : Metrics
f = metrics 490 700 200 110

-- the successor that the sum takes in display styles
abbrev pub large_sum : Metrics
large_sum = metrics 1400 0 1400 0

abbrev pub minus : ℕ → ℤ
minus n = neg_ℤ (pos n)

-- width, height, depth, the places of the fields, and the own nodes
abbrev pub arranged : ℕ → ℕ → ℕ → Offset → Offset → Offset → Own → Arranged
arranged w h d first second third own =
    record {
      size = record { width = pos w; height = pos h; depth = pos d };
      first = first;
      second = second;
      third = third;
      own = own;
    }
