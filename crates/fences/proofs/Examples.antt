-- Worked fences. An edit of the rule is refused here.
-- Assumes nothing.
use mathlib.Core.Path.{◌≡◌, refl}
use Prim.Native.Nat.{ℕ}
use lib.IntN.{ℤ, pos}
use Rattle.scaled.specs.Length.{pick, max_ℤ, half}
use Rattle.boxes.specs.declared.styles.Level.TheVariants.{Text, Scriptscript}
use Rattle.boxes.specs.Styles.{plain, cramp}
use Rattle.boxes.specs.Parameters.{Parameters}
use Rattle.boxes.specs.Boxes.{Size, char_size, zero_size, blank_size, at}
use Rattle.boxes.proofs.Bench.{bench, metrics, minus}
use Rattle.fences.specs.Fences.{Fence, extent_for, fence_extent, fence_of}

-- every parameter, σ22 among them
parameters : ℕ → Parameters
parameters axis size number = axis

-- two lists of one symbol, and delimiters for them
abbrev list₁ : Size
list₁ = char_size (metrics 34_777 156_585 6_336 0)

abbrev sign₁ : Size
sign₁ = char_size (metrics 422 0 282_013 22)

abbrev list₂ : Size
list₂ = char_size (metrics 371_135 269_522 23_951 19_694)

abbrev left₂ : Size
left₂ = char_size (metrics 727 1 651_421 26)

abbrev right₂ : Size
right₂ = char_size (metrics 486_040 1_024_445 50_383 65_438)

-- width, height, depth; how far the left delimiter is raised; how wide it is, and how wide with the list; how far the right
-- delimiter is raised
fence : ℕ → ℕ → ℕ → ℤ → ℕ → ℕ → ℤ → Fence
fence w h d up left behind up' =
    record {
      size = record { width = pos w; height = pos h; depth = pos d };
      left = at (pos 0) up;
      inside = at (pos left) (pos 0);
      right = at (pos behind) up';
    }

worked :
    -- the sign is exactly as tall as the factor asks, for δ = 156,504
    (fence_extent (parameters 81) (cramp Text) list₁ ≡ pos 282_013)
    × (fence_of (parameters 81) (cramp Text) sign₁ list₁ sign₁ ≡ fence 35_665 156_585 140_926 (pos 141_087) 444 35_221 (pos 141_087))
    -- two signs, one raised and one lowered
    × (fence_extent (parameters 70_946) (cramp Scriptscript) list₂ ≡ pos 357_697)
    × (fence_of (parameters 70_946) (cramp Scriptscript) left₂ list₂ right₂
    ≡ fence 943_060 608_360 466_468 (pos 396_656) 753 391_582 (minus 416_085))
    -- nothing between blanks is as high as the axis
    × (fence_extent bench (plain Text) zero_size ≡ pos 0)
    × (fence_of bench (plain Text) blank_size zero_size blank_size ≡ fence 157_286 250 0 (pos 250) 78_643 78_643 (pos 250))
    -- of a tall list the shortfall asks for more, δ = 1,999,750
    × (fence_extent bench (plain Text) (char_size (metrics 0 2_000_000 0 0)) ≡ pos 3_671_820)
    -- below zero δ/500 is rounded up
    × (extent_for (minus 501) ≡ minus 901)
unfolding parameters fence bench pick max_ℤ half fence_of
worked = (refl, refl, refl, refl, refl, refl, refl, refl)
