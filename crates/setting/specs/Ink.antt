-- The ink of nodes on a page (request 12), upward as a node's y.
--     ink_of F n      of a glyph, from its y less the depth of its symbol up to its y and the height, by the font at the glyph's own size, family and
--                    code; of a rule, from its y up by its thickness. A glyph whose symbol the font lacks has none
--     HasSymbol      the font has a glyph's symbol
--     Inked C        a claim of a node's ink. It holds of a node with ink only, so that it says that a glyph has a symbol (`inked_symbol`)
--     Every P ns     a claim of every node; where there is none it claims nothing
--     InkBetween     a node's ink lies between two heights
--     Clear          all ink of some nodes starts so far above where any ink of others ends
-- Assumes nothing.
use Rattle.std.specs.Prelude.{◌≡◌, List, [], ◌∷◌, ℤ, pos, neg_ℤ, ◌+ℤ◌, ◌-ℤ◌, ◌≤ℤ◌}
use Rattle.std.proofs.Math.Option.{Option, none, some}
use Rattle.font.specs.Font.{Font, Metrics}
use Rattle.boxes.specs.Boxes.{Size}
use Rattle.nodes.specs.Nodes.{Node, glyph, rule}

pub record Ink : Type 0 where
  pub bottom : ℤ
  pub top : ℤ

abbrev pub glyph_ink : ℤ → Option Metrics → Option Ink
glyph_ink y none = none
glyph_ink y (some m) = some record { bottom = y -ℤ pos m.depth; top = y +ℤ pos m.height }

unfoldable pub ink_of : Font → Node → Option Ink
ink_of F (glyph x y size family code) = glyph_ink y (F.symbol size family code)
ink_of F (rule x y width thickness) = some record { bottom = y; top = y +ℤ thickness }

abbrev pub HasSymbol : Font → Node → Type 0
HasSymbol F (glyph x y size family code) = (m : Metrics) × (F.symbol size family code ≡ some m)
HasSymbol F (rule x y width thickness) = Unit {0}

abbrev pub Inked : (Ink → Type 0) → Option Ink → Type 0
Inked C none = ⊥
Inked C (some i) = C i

abbrev pub Every : (Node → Type 0) → List Node → Type 0
Every P [] = Unit {0}
Every P (n ∷ ns) = P n × Every P ns

pub record Between (bottom top : ℤ) (i : Ink) : Type 0 where
  pub lower : bottom ≤ℤ i.bottom
  pub upper : i.top ≤ℤ top

abbrev pub InkBetween : Font → ℤ → ℤ → Node → Type 0
InkBetween F bottom top n = Inked (Between bottom top) (ink_of F n)

-- a box of the size z holds the ink
abbrev pub InkIn : Font → Size → List Node → Type 0
InkIn F z ns = Every (InkBetween F (neg_ℤ z.depth) z.height) ns

-- i starts at least `gap` above the end of j
pub record Over (gap : ℤ) (i j : Ink) : Type 0 where
  pub free : (j.top +ℤ gap) ≤ℤ i.bottom

abbrev pub InkOver : Font → ℤ → Node → Node → Type 0
InkOver F gap n m = Inked (λ (i : Ink). Inked (λ (j : Ink). Over gap i j) (ink_of F m)) (ink_of F n)

abbrev pub Clear : Font → ℤ → List Node → List Node → Type 0
Clear F gap ns ms = Every (λ (n : Node). Every (InkOver F gap n) ms) ns
