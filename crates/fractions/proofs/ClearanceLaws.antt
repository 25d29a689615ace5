-- What a fraction keeps clear and what it holds (request 12).
--     parts_clear        with a bar, φ is free on both sides of it; without a bar, φ is free between the parts
--     fraction_holds     a fraction holds its parts and its bar
-- Assumes nothing.
use Rattle.std.specs.Prelude.{◌≡◌, refl, Bool, ℕ, ◌+◌, ◌≤◌, ℤ, pos, neg_ℤ, ◌+ℤ◌, ◌-ℤ◌, ◌*ℤ◌}
use Rattle.std.proofs.Math.Bool.{true, false}
use Rattle.std.proofs.Common.{arith}
use Rattle.std.specs.Int.Signed.{lt_z}
use Rattle.scaled.specs.Length.{pick, max_ℤ, half}
use Rattle.scaled.specs.Signed.{above, below, NotNegative, le_parts}
use Rattle.scaled.specs.Linear.{Exp, #, ◌⊕◌, ◌⊖◌, neg, times, halved}
use Rattle.scaled.proofs.Linear.{sound, le_by}
use Rattle.scaled.specs.Made.{Less, less}
use Rattle.formula.specs.declared.Bar.{Bar}
use Rattle.formula.specs.declared.Bar.TheVariants.{Default, Without}
use Rattle.boxes.specs.declared.styles.Style.{Style}
use Rattle.boxes.specs.Styles.{is_display, font_size}
use Rattle.boxes.specs.Parameters.{Parameters, axis_height, rule_thickness}
use Rattle.boxes.specs.Boxes.{Size, Shifts}
use Rattle.boxes.specs.Holding.{Upright, Holds}
use Rattle.fractions.specs.Fractions.{bar_thickness, has_bar, fraction_shifts, least_clearance, clearance, parted, shifts_without_bar, least_from_bar, cleared, shifts_with_bar, enclosed, final_shifts, fraction}
use Rattle.fractions.specs.ClearanceLaws.{bar_low, bar_rule, BarHeld, PartsClear, FractionHolds}

-- ---- 15d, on the parts of numbers: the shift grew to r, and with r φ is free

record Cleared (φ upper lower shift r : ℤ) : Type 0 where
  grown : above shift + below r ≤ above r + below shift
  free : (above φ + above lower + above shift) + (below upper + below r) ≤ (above upper + above r) + (below φ + below lower + below shift)

cleared_free : (φ upper lower shift : ℤ) → Cleared φ upper lower shift (cleared φ upper lower shift)
unfolding cleared pick
cleared_free φ upper lower shift = go (lt_z room φ) refl
  where
    room : ℤ
    room = upper -ℤ lower

    go : (t : Bool) → lt_z room φ ≡ t → Cleared φ upper lower shift (pick t (shift +ℤ (φ -ℤ room)) shift)
    go true e =
        let l : Less room φ (lt_z room φ) = less refl in
        omega (arith, l.yes e, sound (# upper ⊖ # lower) (tt, tt), sound (# shift ⊕ (# φ ⊖ # room)) (tt, (tt, tt)))
    go false e =
        let l : Less room φ (lt_z room φ) = less refl in
        omega (arith, l.no e, sound (# upper ⊖ # lower) (tt, tt))

-- ---- 15c: each part gains half of what is free too little, rounded up

record Parted (φ ψ : ℤ) (t r : Shifts) : Type 0 where
  up : above t.up + below r.up ≤ above r.up + below t.up
  down : above t.down + below r.down ≤ above r.down + below t.down
  free : (above φ + above t.up + above t.down) + (below ψ + below r.up + below r.down)
      ≤ (above ψ + above r.up + above r.down) + (below φ + below t.up + below t.down)

parted_free : (φ ψ : ℤ) (t : Shifts) → Parted φ ψ t (parted φ ψ t)
unfolding parted
parted_free φ ψ t = go (lt_z ψ φ) refl
  where
    lack : Exp
    lack = halved (# φ ⊖ # ψ)

    go : (b : Bool) → lt_z ψ φ ≡ b →
        Parted φ ψ t (elim b [ true ↦ record { up = t.up +ℤ half (φ -ℤ ψ); down = t.down +ℤ half (φ -ℤ ψ) } | false ↦ t ])
    go true e =
        let l : Less ψ φ (lt_z ψ φ) = less refl in
        let short = l.yes e in
        let up = sound (# t.up ⊕ lack) (tt, (tt, tt)) in
        let down = sound (# t.down ⊕ lack) (tt, (tt, tt)) in
        omega arith
    go false e =
        let l : Less ψ φ (lt_z ψ φ) = less refl in
        omega (arith, l.no e)

-- ---- no shift and no φ is negative

picked_up : {a b : ℤ} (t : Bool) → NotNegative a → NotNegative b → NotNegative (pick t a b)
unfolding pick
picked_up true h k = h
picked_up false h k = k

from_bar_up : (s : Style) (θ : ℤ) → NotNegative θ → NotNegative (least_from_bar s θ)
unfolding pick
from_bar_up s θ thick = go (is_display s.level)
  where
    go : (display : Bool) → NotNegative (θ *ℤ pick display (pos 3) (pos 1))
    go true = omega (arith, sound (times (# θ) 3) tt)
    go false = omega (arith, sound (times (# θ) 1) tt)

between_up : (p : Parameters) (s : Style) → NotNegative (least_clearance p s)
unfolding pick
between_up p s = go (is_display s.level)
  where
    θ : ℤ
    θ = rule_thickness p (font_size s)

    go : (display : Bool) → NotNegative (θ *ℤ pick display (pos 7) (pos 3))
    go true = omega (arith, sound (times (# θ) 7) tt)
    go false = omega (arith, sound (times (# θ) 3) tt)

first_up : (p : Parameters) (s : Style) (θ : ℤ) → NotNegative (fraction_shifts p s θ).up
unfolding fraction_shifts
first_up p s θ = picked_up (is_display s.level) (omega arith) (picked_up (has_bar θ) (omega arith) (omega arith))

first_down : (p : Parameters) (s : Style) (θ : ℤ) → NotNegative (fraction_shifts p s θ).down
unfolding fraction_shifts
first_down p s θ = picked_up (is_display s.level) (omega arith) (omega arith)

-- ---- what is free between the parts, by whether there is a bar

module _ (p : Parameters) (s : Style) (θ : ℤ) (x z : Size) where
  abbrev axis : ℤ
  axis = axis_height p (font_size s)

  abbrev first : Shifts
  first = fraction_shifts p s θ

  shifts_by : Bool → Shifts
  shifts_by bar =
      elim bar [
        | true ↦ shifts_with_bar axis θ (least_from_bar s θ) x z first
        | false ↦ shifts_without_bar p s x z first
      ]

  clear_by : (bar : Bool) → PartsClear p s θ x z bar (shifts_by bar)
  unfolding shifts_by shifts_with_bar shifts_without_bar
  clear_by true =
      let φ = least_from_bar s θ in
      let up = cleared φ (first.up -ℤ x.depth) (axis +ℤ half θ) first.up in
      let down = cleared φ (axis -ℤ half θ) (z.height -ℤ first.down) first.down in
      let above-it = cleared_free φ (first.up -ℤ x.depth) (axis +ℤ half θ) first.up in
      let below-it = cleared_free φ (axis -ℤ half θ) (z.height -ℤ first.down) first.down in
      let bar = (# axis ⊕ halved (# θ)) ⊖ # θ in
      let bottom = sound (# first.up ⊖ # x.depth) (tt, tt) in
      let top = sound (# z.height ⊖ # first.down) (tt, tt) in
      let high = sound (# axis ⊕ halved (# θ)) (tt, tt) in
      let low = sound (# axis ⊖ halved (# θ)) (tt, tt) in
      record {
        over = le_by (# φ) ((# up ⊖ # x.depth) ⊖ (bar ⊕ # θ)) (omega (arith, above-it.free, bottom, high));
        under = le_by (# φ) (bar ⊖ (# z.height ⊖ # down)) (omega (arith, below-it.free, top, low));
      }
  clear_by false =
      let φ = least_clearance p s in
      let ψ = clearance x z first in
      let t = parted φ ψ first in
      let free = (parted_free φ ψ first).free in
      let before = sound ((# first.up ⊖ # x.depth) ⊖ (# z.height ⊖ # first.down)) ((tt, tt), (tt, tt)) in
      le_by (# φ) ((# t.up ⊖ # x.depth) ⊖ (# z.height ⊖ # t.down)) (omega (arith, free, before))

  pub parts_clear : PartsClear p s θ x z (has_bar θ) (final_shifts p s θ x z)
  unfolding shifts_by
  parts_clear = clear_by (has_bar θ)

  record Stands (t : Shifts) : Type 0 where
    up : NotNegative t.up
    down : NotNegative t.down

  stands_by : (bar : Bool) → Stands (shifts_by bar)
  unfolding shifts_by shifts_with_bar shifts_without_bar
  stands_by true =
      let φ = least_from_bar s θ in
      let above-it = cleared_free φ (first.up -ℤ x.depth) (axis +ℤ half θ) first.up in
      let below-it = cleared_free φ (axis -ℤ half θ) (z.height -ℤ first.down) first.down in
      record {
        up = omega (arith, above-it.grown, first_up p s θ);
        down = omega (arith, below-it.grown, first_down p s θ);
      }
  stands_by false =
      let grown = parted_free (least_clearance p s) (clearance x z first) first in
      record { up = omega (arith, grown.up, first_up p s θ); down = omega (arith, grown.down, first_down p s θ) }

  -- ---- the item, by whether there is a bar

  module _ (wide w : ℤ) where
    abbrev whole_by : Shifts → Size
    whole_by t = record { width = wide; height = x.height +ℤ t.up; depth = z.depth +ℤ t.down }

    record PartsHeld (bar : Bool) (t : Shifts) : Type 0 where
      upright : Upright (whole_by t)
      numerator : Holds (whole_by t) x t.up
      denominator : Holds (whole_by t) z (neg_ℤ t.down)
      held : BarHeld (whole_by t) (bar_rule axis θ w) bar

    -- the parts do not overlap, and the bar is between them
    module _ (thick : NotNegative θ) (ux : Upright x) (uz : Upright z) (t : Shifts) (stands : Stands t) where
      held_by : (bar : Bool) → PartsClear p s θ x z bar t → PartsHeld bar t
      held_by true clear =
          let low = bar_low axis θ in
          let high = sound (# x.height ⊕ # t.up) (tt, tt) in
          let deep = sound (# z.depth ⊕ # t.down) (tt, tt) in
          let down = sound (neg (# t.down)) tt in
          let free = from_bar_up s θ thick in
          let over = sound ((# t.up ⊖ # x.depth) ⊖ (# low ⊕ # θ)) ((tt, tt), (tt, tt)) in
          let under = sound (# low ⊖ (# z.height ⊖ # t.down)) (tt, (tt, tt)) in
          let up = le_parts clear.over in
          let below-it = le_parts clear.under in
          omega arith
      held_by false clear =
          let high = sound (# x.height ⊕ # t.up) (tt, tt) in
          let deep = sound (# z.depth ⊕ # t.down) (tt, tt) in
          let down = sound (neg (# t.down)) tt in
          let free = between_up p s in
          let between = sound ((# t.up ⊖ # x.depth) ⊖ (# z.height ⊖ # t.down)) ((tt, tt), (tt, tt)) in
          let apart = le_parts clear in
          omega arith

thickness_up : (p : Parameters) (size : ℕ) (bar : Bar) → NotNegative (bar_thickness p size bar)
thickness_up p size Default = omega arith
thickness_up p size Without = omega arith

pub fraction_holds : (p : Parameters) (s : Style) (bar : Bar) (x z : Size) → Upright x → Upright z →
    let θ = bar_thickness p (font_size s) bar in
    FractionHolds (has_bar θ) (bar_rule (axis_height p (font_size s)) θ (max_ℤ x.width z.width)) x z (fraction p s bar x z)
unfolding fraction shifts_by
fraction_holds p s bar x z ux uz =
    let θ = bar_thickness p (font_size s) bar in
    let w = max_ℤ x.width z.width in
    let t = final_shifts p s θ x z in
    let stands : Stands p s θ x z t = stands_by p s θ x z (has_bar θ) in
    let h = held_by p s θ x z (enclosed w) w (thickness_up p (font_size s) bar) ux uz t stands (has_bar θ) (parts_clear p s θ x z) in
    record { upright = h.upright; numerator = h.numerator; denominator = h.denominator; own_is = refl; held = h.held }
