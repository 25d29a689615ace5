-- What a fraction keeps clear, where its bar stands, and what it holds (request 12). That every fraction does is shown in
-- proofs/ClearanceLaws.antt.
--     BarClear, PartsClear      with a bar, φ is free from its top up to the numerator's bottom, and from its lower edge down to the denominator's
--                               top; without a bar, φ is free between the two
--     Centred, bar_centred      the middle from a lower to an upper edge is within half a scaled point of an axis, and the bar's is
--     FractionHolds             the fraction holds its parts and its bar
-- Assumes nothing.
use Rattle.std.specs.Prelude.{◌≡◌, Bool, ℤ, pos, ◌+ℤ◌, ◌-ℤ◌, ◌*ℤ◌, ◌≤ℤ◌}
use Rattle.std.proofs.Math.Bool.{true, false}
use Rattle.std.proofs.Common.{arith}
use Rattle.scaled.specs.Length.{pick, half}
use Rattle.scaled.specs.Linear.{#, ◌⊕◌, ◌⊖◌, halved}
use Rattle.scaled.proofs.Linear.{le_by}
use Rattle.boxes.specs.declared.styles.Style.{Style}
use Rattle.boxes.specs.Styles.{is_display, font_size}
use Rattle.boxes.specs.Parameters.{Parameters, axis_height, rule_thickness}
use Rattle.boxes.specs.Boxes.{Size, Shifts, Rule, no_own, ruled_behind, Arranged, at, null_delimiter_width}
use Rattle.boxes.specs.Holding.{Upright, Holds, rule_size}
use Rattle.fractions.specs.Fractions.{clearance}

-- ---- the bar

-- its lower edge
abbrev pub bar_low : ℤ → ℤ → ℤ
bar_low axis θ = (axis +ℤ half θ) -ℤ θ

abbrev pub bar_rule : ℤ → ℤ → ℤ → Rule
bar_rule axis θ w = record { corner = at null_delimiter_width (bar_low axis θ); width = w; thickness = θ }

-- a box holds the bar, if there is one
abbrev pub BarHeld : Size → Rule → Bool → Type 0
BarHeld w r true = Holds w (rule_size r) r.corner.up
BarHeld w r false = Unit {0}

-- twice the middle less twice the axis is 0 or 1
pub record Centred (axis bottom top : ℤ) : Type 0 where
  pub over : (axis +ℤ axis) ≤ℤ (bottom +ℤ top)
  pub under : (bottom +ℤ top) ≤ℤ ((axis +ℤ axis) +ℤ pos 1)

pub bar_centred : (axis θ : ℤ) → Centred axis (bar_low axis θ) (bar_low axis θ +ℤ θ)
bar_centred axis θ =
    let low = (# axis ⊕ halved (# θ)) ⊖ # θ in
    record {
      over = le_by (# axis ⊕ # axis) (low ⊕ (low ⊕ # θ)) (omega arith);
      under = le_by (low ⊕ (low ⊕ # θ)) ((# axis ⊕ # axis) ⊕ # (pos 1)) (omega arith);
    }

-- ---- what is free between the parts, by whether there is a bar

-- φ of 15d: three times the bar's thickness in display styles, else the thickness
abbrev pub from_bar : Style → ℤ → ℤ
from_bar s θ = θ *ℤ pick (is_display s.level) (pos 3) (pos 1)

-- φ of 15c: seven rules in display styles, else three
abbrev pub between_parts : Parameters → Style → ℤ
between_parts p s = rule_thickness p (font_size s) *ℤ pick (is_display s.level) (pos 7) (pos 3)

module _ (p : Parameters) (s : Style) (θ : ℤ) (x z : Size) where
  abbrev axis : ℤ
  axis = axis_height p (font_size s)

  pub record BarClear (t : Shifts) : Type 0 where
    pub over : from_bar s θ ≤ℤ ((t.up -ℤ x.depth) -ℤ (bar_low axis θ +ℤ θ))
    pub under : from_bar s θ ≤ℤ (bar_low axis θ -ℤ (z.height -ℤ t.down))

  abbrev pub PartsClear : Bool → Shifts → Type 0
  PartsClear true t = BarClear t
  PartsClear false t = between_parts p s ≤ℤ clearance x z t

-- the fraction a of the parts x and z with the bar r, if it has one
pub record FractionHolds (bar : Bool) (r : Rule) (x z : Size) (a : Arranged) : Type 0 where
  pub upright : Upright a.size
  pub numerator : Holds a.size x a.first.up
  pub denominator : Holds a.size z a.second.up
  pub own_is : a.own ≡ elim bar [ true ↦ ruled_behind r | false ↦ no_own ]
  pub held : BarHeld a.size r bar
