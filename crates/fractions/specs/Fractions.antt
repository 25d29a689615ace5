-- Fractions (document 01, "FR", and request 1; rules 15 to 15e): numerator x, denominator z, bar thickness θ.
-- Assumes nothing.
use Rattle.std.specs.Prelude.{Bool, true, false, ℕ, ℤ, pos, neg_ℤ, ◌+ℤ◌, ◌-ℤ◌, ◌*ℤ◌}
use Rattle.std.specs.Int.Signed.{lt_z}
use Rattle.scaled.specs.Length.{pick, max_ℤ, half}
use Rattle.formula.specs.declared.Bar.{Bar}
use Rattle.formula.specs.declared.Bar.TheVariants.{Default, Without}
use Rattle.boxes.specs.declared.styles.Style.{Style}
use Rattle.boxes.specs.Styles.{is_display, font_size}
use Rattle.boxes.specs.Parameters.{Parameters, num1, num2, num3, denom1, denom2, axis_height, rule_thickness}
use Rattle.boxes.specs.Boxes.{Size, Shifts, Own, no_own, ruled_behind, Arranged, at, origin, centred, null_delimiter_width}

-- ---- 15: the thickness of the bar; with thickness 0 there is none

abbrev pub bar_thickness : Parameters → ℕ → Bar → ℤ
bar_thickness p size Default = rule_thickness p size
bar_thickness p size Without = pos 0

abbrev pub has_bar : ℤ → Bool
has_bar θ = lt_z (pos 0) θ

-- ---- 15b: the shifts at first

abbrev pub numerator_up : Parameters → Style → ℤ → ℤ
numerator_up p s θ =
    let size = font_size s in
    pick (is_display s.level) (num1 p size) (pick (has_bar θ) (num2 p size) (num3 p size))

abbrev pub denominator_down : Parameters → Style → ℤ
denominator_down p s =
    let size = font_size s in
    pick (is_display s.level) (denom1 p size) (denom2 p size)

unfoldable pub fraction_shifts : Parameters → Style → ℤ → Shifts
fraction_shifts p s θ = record { up = numerator_up p s θ; down = denominator_down p s }

-- ---- 15c: without a bar, both gain half of what the clearance lacks

abbrev pub least_clearance : Parameters → Style → ℤ
least_clearance p s = rule_thickness p (font_size s) *ℤ pick (is_display s.level) (pos 7) (pos 3)

-- the free height between numerator and denominator
abbrev pub clearance : Size → Size → Shifts → ℤ
clearance x z t = (t.up -ℤ x.depth) -ℤ (z.height -ℤ t.down)

unfoldable pub parted : ℤ → ℤ → Shifts → Shifts
parted φ ψ t =
    elim (lt_z ψ φ) [
      | true ↦ record { up = t.up +ℤ half (φ -ℤ ψ); down = t.down +ℤ half (φ -ℤ ψ) }
      | false ↦ t
    ]

unfoldable pub shifts_without_bar : Parameters → Style → Size → Size → Shifts → Shifts
shifts_without_bar p s x z t = parted (least_clearance p s) (clearance x z t) t

-- ---- 15d: with a bar, each shift grows until its side is clear of the bar by φ

abbrev pub least_from_bar : Style → ℤ → ℤ
least_from_bar s θ = θ *ℤ pick (is_display s.level) (pos 3) (pos 1)

-- a shift of a box, where the free height between box and bar reaches from lower to upper
unfoldable pub cleared : ℤ → ℤ → ℤ → ℤ → ℤ
cleared φ upper lower shift =
    let free = upper -ℤ lower in
    pick (lt_z free φ) (shift +ℤ (φ -ℤ free)) shift

unfoldable pub shifts_with_bar : ℤ → ℤ → ℤ → Size → Size → Shifts → Shifts
shifts_with_bar axis θ φ x z t =
    record {
      up = cleared φ (t.up -ℤ x.depth) (axis +ℤ half θ) t.up;
      down = cleared φ (axis -ℤ half θ) (z.height -ℤ t.down) t.down;
    }

-- ---- 15e: the whole stands between two delimiters; an absent one is blank, with a width alone

abbrev pub enclosed : ℤ → ℤ
enclosed w = (null_delimiter_width +ℤ w) +ℤ null_delimiter_width

-- ---- the item: both parts and the bar stand in the width of the wider part, behind the blank on the left

abbrev pub final_shifts : Parameters → Style → ℤ → Size → Size → Shifts
final_shifts p s θ x z =
    elim (has_bar θ) [
      | true ↦ shifts_with_bar (axis_height p (font_size s)) θ (least_from_bar s θ) x z (fraction_shifts p s θ)
      | false ↦ shifts_without_bar p s x z (fraction_shifts p s θ)
    ]

-- the bar's top is half of its thickness above the axis
abbrev pub bar_of : ℤ → ℤ → ℤ → Own
bar_of axis θ w =
    elim (has_bar θ) [
      | true ↦ ruled_behind record {
        corner = at null_delimiter_width ((axis +ℤ half θ) -ℤ θ);
        width = w;
        thickness = θ;
      }
      | false ↦ no_own
    ]

-- where a part stands in the middle of the width w
abbrev pub across_of : ℤ → Size → ℤ
across_of w z = null_delimiter_width +ℤ centred w z.width

-- numerator and denominator, shifted by t, in the middle of the width w
abbrev pub stacked : Size → Size → ℤ → Shifts → Own → Arranged
stacked x z w t bar =
    record {
      size = record { width = enclosed w; height = x.height +ℤ t.up; depth = z.depth +ℤ t.down };
      first = at (across_of w x) t.up;
      second = at (across_of w z) (neg_ℤ t.down);
      third = origin;
      own = bar;
    }

unfoldable pub fraction : Parameters → Style → Bar → Size → Size → Arranged
fraction p s bar x z =
    let size = font_size s in
    let θ = bar_thickness p size bar in
    let w = max_ℤ x.width z.width in
    stacked x z w (final_shifts p s θ x z) (bar_of (axis_height p size) θ w)
