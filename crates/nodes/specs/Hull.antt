-- How far nodes reach: the least and the greatest x and y of some nodes. By it answer 6 (document 01) is found without a buffer:
-- a run of nodes is within the greatest length where its hull is (`fits_hull` of `HullLaws`).
-- Assumes nothing.
use Rattle.std.specs.Prelude.{Bool, true, ◌&&◌, List, [], ◌∷◌, ℕ, ℤ, ◌+ℤ◌}
use Rattle.scaled.specs.Length.{max_ℤ, min_ℤ}
use Rattle.scaled.specs.Signed.{Within}
use Rattle.nodes.specs.Nodes.{Node, glyph, rule}
use Rattle.nodes.specs.Bounds.{within}

pub data Hull : Type 0 where
  none : Hull
  around : ℤ → ℤ → ℤ → ℤ → Hull  -- left, right, bottom, top

unfoldable pub joined : Hull → Hull → Hull
joined none h = h
joined (around a b c d) none = around a b c d
joined (around a b c d) (around a' b' c' d') = around (min_ℤ a a') (max_ℤ b b') (min_ℤ c c') (max_ℤ d d')

unfoldable pub moved_hull : ℤ → ℤ → Hull → Hull
moved_hull dx dy none = none
moved_hull dx dy (around a b c d) = around (a +ℤ dx) (b +ℤ dx) (c +ℤ dy) (d +ℤ dy)

abbrev pub node_hull : Node → Hull
node_hull (glyph x y size family code) = around x x y y
node_hull (rule x y width thickness) = around x x y y

unfoldable pub hull : List Node → Hull
hull [] = none
hull (n ∷ ns) = joined (node_hull n) (hull ns)

unfoldable pub hull_fits : Hull → Bool
hull_fits none = true
hull_fits (around a b c d) = within a && within b && within c && within d

-- every end is within k
abbrev pub HullWithin : ℕ → Hull → Type 0
HullWithin k none = Unit {0}
HullWithin k (around a b c d) = Within k a × Within k b × Within k c × Within k d
