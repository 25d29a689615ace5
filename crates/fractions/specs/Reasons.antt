-- What decided the shifts of a fraction (change request 7): σ at first, and the clearance of 15c or 15d where it changed the shift. The
-- shifts are those of `Fractions`.
-- Assumes nothing.
use Rattle.formula.specs.declared.Bar.{Bar}
use Rattle.boxes.specs.declared.styles.Style.{Style}
use Rattle.boxes.specs.Styles.{font_size}
use Rattle.boxes.specs.Parameters.{Parameters}
use Rattle.boxes.specs.Boxes.{Size}
use Rattle.reasons.specs.declared.Reason.TheVariants.{Sigma, Clearance}
use Rattle.reasons.specs.Reasons.{Reasons, shift_by, corrected}
use Rattle.fractions.specs.Fractions.{bar_thickness, fraction_shifts, final_shifts}

unfoldable pub fraction_reasons : Parameters → Style → Bar → Size → Size → Reasons
fraction_reasons p s bar x z =
    let θ = bar_thickness p (font_size s) bar in
    let first = fraction_shifts p s θ in
    let final = final_shifts p s θ x z in
    record {
      up = corrected Clearance final.up (shift_by Sigma first.up);
      down = corrected Clearance final.down (shift_by Sigma first.down);
    }
