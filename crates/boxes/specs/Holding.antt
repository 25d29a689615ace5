-- What a box holds (request 12): nothing in it reaches above its height, or below its depth. The facts are on the parts of numbers, as `omega` reads them.
--     Upright w          height and depth are not negative
--     Holds w z up       a box of size w holds one of size z that is raised by `up`; `holds_top`, `holds_bottom` say it in ℤ
--     UprightIf, HoldsIf     the same of a box that may be absent
--     holds_within       what is held is held by all that holds the holder
--     OwnHeld F w o      a box of size w holds an item's own nodes: a rule from its lower edge up by its thickness, a sign by its metrics in the font F
-- Assumes nothing.
use Rattle.std.specs.Prelude.{◌≡◌, List, [], ◌∷◌, ◌+◌, ◌≤◌, ℤ, pos, ◌+ℤ◌, ◌-ℤ◌, ◌≤ℤ◌}
use Rattle.std.proofs.Math.Option.{Option, none, some}
use Rattle.std.proofs.Common.{arith}
use Rattle.scaled.specs.Signed.{NotNegative, above, below}
use Rattle.scaled.specs.Linear.{#, ◌⊕◌, ◌⊖◌}
use Rattle.scaled.proofs.Linear.{le_by}
use Rattle.font.specs.Font.{Metrics, Font}
use Rattle.boxes.specs.Boxes.{Size, char_size, Rule, Glyph, OwnNode, ruled, signed, Own, no_own, ruled_behind}

pub record Upright (w : Size) : Type 0 where
  pub high : NotNegative w.height
  pub deep : NotNegative w.depth

abbrev pub UprightIf : Option Size → Type 0
UprightIf none = Unit {0}
UprightIf (some w) = Upright w

pub record Holds (w z : Size) (up : ℤ) : Type 0 where
  pub top : above z.height + above up + below w.height ≤ above w.height + below z.height + below up
  pub bottom : above z.depth + below up + below w.depth ≤ above w.depth + below z.depth + above up

abbrev pub HoldsIf : Size → Option Size → ℤ → Type 0
HoldsIf w none up = Unit {0}
HoldsIf w (some z) up = Holds w z up

module _ {w z : Size} {up : ℤ} where
  pub holds_top : Holds w z up → (z.height +ℤ up) ≤ℤ w.height
  holds_top h = le_by (# z.height ⊕ # up) (# w.height) (omega arith)

  pub holds_bottom : Holds w z up → (z.depth -ℤ up) ≤ℤ w.depth
  holds_bottom h = le_by (# z.depth ⊖ # up) (# w.depth) (omega arith)

pub holds_itself : (w : Size) → Holds w w (pos 0)
holds_itself w = omega arith

module _ {v w : Size} (within : Holds v w (pos 0)) where
  pub upright_within : Upright w → Upright v
  upright_within u = omega arith

  pub holds_within : {z : Size} {up : ℤ} → Holds w z up → Holds v z up
  holds_within h = omega arith

  pub holds_if_within : (o : Option Size) (up : ℤ) → HoldsIf w o up → HoldsIf v o up
  holds_if_within none up h = tt
  holds_if_within (some z) up h = holds_within h

-- ---- an item's own nodes

-- from the lower edge up
abbrev pub rule_size : Rule → Size
rule_size r = record { width = r.width; height = r.thickness; depth = pos 0 }

module _ (F : Font) where
  -- the font has the symbol
  pub record SignHeld (w : Size) (g : Glyph) : Type 0 where
    pub metrics : Metrics
    pub there : F.symbol g.size g.family g.code ≡ some metrics
    pub held : Holds w (char_size metrics) g.place.up

  abbrev pub NodeHeld : Size → OwnNode → Type 0
  NodeHeld w (ruled r) = Holds w (rule_size r) r.corner.up
  NodeHeld w (signed g) = SignHeld w g

  abbrev pub AllHeld : Size → List OwnNode → Type 0
  AllHeld w [] = Unit {0}
  AllHeld w (o ∷ os) = NodeHeld w o × AllHeld w os

  pub record OwnHeld (w : Size) (o : Own) : Type 0 where
    pub before : AllHeld w o.before
    pub behind : AllHeld w o.behind

  pub none_held : (w : Size) → OwnHeld w no_own
  none_held w = record { before = tt; behind = tt }

  pub rule_held : {w : Size} (r : Rule) → Holds w (rule_size r) r.corner.up → OwnHeld w (ruled_behind r)
  rule_held r h = record { before = tt; behind = (h, tt) }

  module _ {v w : Size} (within : Holds v w (pos 0)) where
    node_within : (o : OwnNode) → NodeHeld w o → NodeHeld v o
    node_within (ruled r) h = holds_within within h
    node_within (signed g) h = record { metrics = h.metrics; there = h.there; held = holds_within within h.held }

    all_within : (os : List OwnNode) → AllHeld w os → AllHeld v os
    all_within [] h = tt
    all_within (o ∷ os) h = (node_within o h.0, all_within os h.1)

    pub own_within : {o : Own} → OwnHeld w o → OwnHeld v o
    own_within {o} h = record { before = all_within o.before h.before; behind = all_within o.behind h.behind }
