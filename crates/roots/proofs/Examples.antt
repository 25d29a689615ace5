-- Worked roots. An edit of the rule is refused here.
-- Assumes nothing.
use mathlib.Core.Path.{◌≡◌, refl}
use mathlib.Core.Bool.{true, false}
use Prim.Native.Nat.{ℕ}
use lib.Dec.{eqb}
use lib.IntN.{pos}
use Rattle.scaled.specs.Length.{pick, max_ℤ, half}
use Rattle.boxes.specs.declared.styles.Level.TheVariants.{Display, Text, Scriptscript}
use Rattle.boxes.specs.Styles.{plain}
use Rattle.boxes.specs.Parameters.{Parameters}
use Rattle.boxes.specs.Boxes.{char_size, blank_size, at}
use Rattle.boxes.proofs.Bench.{bench, metrics, a}
use Rattle.roots.specs.Roots.{Radical, root}

-- ξ8, and σ5 for every other
parameters : ℕ → ℕ → Parameters
parameters thickness x_height size number = elim (eqb number 29) [ true ↦ thickness | false ↦ x_height ]

-- width, height, depth; how wide the sign is, and how far it is raised; the rule's width and thickness
radical : ℕ → ℕ → ℕ → ℕ → ℕ → ℕ → ℕ → Radical
radical w h d sign up width thickness =
    record {
      size = record { width = pos w; height = pos h; depth = pos d };
      sign = at (pos 0) (pos up);
      rule = record { corner = at (pos sign) (pos up); width = pos width; thickness = pos thickness };
      nucleus = at (pos sign) (pos 0);
    }

worked :
    -- the bench's a under +
    (root bench (plain Text) (char_size a) (char_size (metrics 780 580 80 0)) ≡ radical 1_280 1_640 0 780 480 500 580)
    -- a quarter of σ5 in display styles
    × (root (parameters 20_425 240_931) (plain Display) (char_size (metrics 0 469_274 164_980 102_132)) (char_size (metrics 0 342_595 0 42_206))
    ≡ radical 144_338 1_235_121 164_980 42_206 549_931 102_132 342_595)
    -- a sign that is deeper by an odd excess
    × (root (parameters 932_038 718) (plain Scriptscript) (char_size (metrics 652_786 24_139 0 156_099)) (char_size (metrics 3_853_292 9 4_335_065 0))
    ≡ radical 4_662_177 2_762_144 1_572_939 3_853_292 2_762_126 808_885 9)
    -- no sign
    × (root bench (plain Text) (char_size a) blank_size ≡ radical 79_143 480 0 78_643 480 500 0)
unfolding parameters radical bench pick max_ℤ half root
worked = (refl, refl, refl, refl)
