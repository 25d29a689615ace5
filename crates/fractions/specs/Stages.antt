-- What the names of reasons stand for at a fraction (change request 7), and the shifts that its parts go through: σ at first, and then the
-- clearance.
-- Assumes nothing.
use Rattle.std.proofs.Math.Option.{Option, none, some}
use Rattle.std.specs.Prelude.{ℤ, ◌+ℤ◌, ◌-ℤ◌}
use Rattle.scaled.specs.Length.{pick, half}
use Rattle.formula.specs.declared.Bar.{Bar}
use Rattle.boxes.specs.declared.styles.Style.{Style}
use Rattle.boxes.specs.Styles.{font_size}
use Rattle.boxes.specs.Parameters.{Parameters, axis_height}
use Rattle.boxes.specs.Boxes.{Size}
use Rattle.reasons.specs.declared.Reason.{Reason}
use Rattle.reasons.specs.declared.Reason.TheVariants.{None, Drop, Sigma, XHeight, Gap, Psi, Clearance}
use Rattle.reasons.specs.Stages.{ShiftStages, BothStages}
use Rattle.fractions.specs.Fractions.{bar_thickness, has_bar, fraction_shifts, least_clearance, clearance, least_from_bar, final_shifts}

abbrev pub quantities : ℤ → ℤ → Reason → Option ℤ
quantities σ clear None = none
quantities σ clear Drop = none
quantities σ clear Sigma = some σ
quantities σ clear XHeight = none
quantities σ clear Gap = none
quantities σ clear Psi = none
quantities σ clear Clearance = some clear

-- ψ is none of its stages
abbrev pub part_stages : ℤ → ℤ → ℤ → ShiftStages
part_stages σ clear final = record { quantity = quantities σ clear; chosen = σ; parted = final; final = final }

module _ (p : Parameters) (s : Style) (θ : ℤ) (x z : Size) where
  -- half of what the clearance lacks
  abbrev pub half_lack : ℤ
  half_lack = half (least_clearance p s -ℤ clearance x z (fraction_shifts p s θ))

  -- the shift after the clearance: with a bar, the one with which the numerator is clear of it by φ
  abbrev pub up_cleared : ℤ
  up_cleared =
      pick (has_bar θ) (((axis_height p (font_size s) +ℤ half θ) +ℤ least_from_bar s θ) +ℤ x.depth) ((fraction_shifts p s θ).up +ℤ half_lack)

  -- and the denominator
  abbrev pub down_cleared : ℤ
  down_cleared =
      pick (has_bar θ) ((least_from_bar s θ -ℤ (axis_height p (font_size s) -ℤ half θ)) +ℤ z.height) ((fraction_shifts p s θ).down +ℤ half_lack)

unfoldable pub fraction_stages : Parameters → Style → Bar → Size → Size → BothStages
fraction_stages p s bar x z =
    let θ = bar_thickness p (font_size s) bar in
    let first = fraction_shifts p s θ in
    let final = final_shifts p s θ x z in
    record {
      up = some (part_stages first.up (up_cleared p s θ x z) final.up);
      down = some (part_stages first.down (down_cleared p s θ x z) final.down);
    }
