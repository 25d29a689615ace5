-- What decided the shifts of scripts (change request 7): of the candidates for a shift the first that is the greatest, and then of the
-- corrections of 18e the last that changed it. The shifts are those of `Scripts`.
-- Assumes nothing.
use Rattle.std.specs.Prelude.{true, false, ℕ, ℤ}
use Rattle.std.proofs.Math.Option.{Option, none, some}
use Rattle.std.specs.Int.Signed.{lt_z}
use Rattle.boxes.specs.declared.styles.Style.{Style}
use Rattle.boxes.specs.Styles.{font_size}
use Rattle.boxes.specs.Parameters.{Parameters}
use Rattle.boxes.specs.Boxes.{Size, Shifts}
use Rattle.nucleus.specs.Nucleus.{Nucleus}
use Rattle.reasons.specs.declared.Reason.{Reason}
use Rattle.reasons.specs.declared.Reason.TheVariants.{Drop, Sigma, XHeight, Gap, Psi}
use Rattle.reasons.specs.Reasons.{ShiftReason, Reasons, unshifted, shift_by, corrected}
use Rattle.scripts.specs.Scripts.{Candidates, greatest, subscript_candidates, superscript_candidates, superscript_up, pair_candidates, pair_down, gap, four_rules, gap_down, pair_shifts}

-- a candidate is passed over where it is less than the greatest
unfoldable pub first_greatest : Candidates → Reason
first_greatest c =
    elim (lt_z c.dropped (greatest c)) [
      | true ↦ elim (lt_z c.least (greatest c)) [ true ↦ XHeight | false ↦ Sigma ]
      | false ↦ Drop
    ]

abbrev pub chosen : Candidates → ShiftReason
chosen c = shift_by (first_greatest c) (greatest c)

-- 18e: v after the gap has been seen to, and before ψ is looked at
unfoldable pub widened : Parameters → ℕ → Size → Size → Shifts → ℤ
widened p size x y t =
    elim (lt_z (gap x y t.up t.down) (four_rules p size)) [
      | true ↦ gap_down p size x y t.up
      | false ↦ t.down
    ]

-- the shifts of a pair before 18e
abbrev pub first_shifts : Parameters → Style → Nucleus → Size → Shifts
first_shifts p s n x = record { up = superscript_up p s n x; down = pair_down p s n }

-- the gap moves the subscript alone, ψ both
unfoldable pub pair_reasons : Parameters → Style → Nucleus → Size → Size → Reasons
pair_reasons p s n x y =
    let t = pair_shifts p s n x y in
    let v = widened p (font_size s) x y (first_shifts p s n x) in
    record {
      up = corrected Psi t.up (chosen (superscript_candidates p s n x));
      down = corrected Psi t.down (corrected Gap v (chosen (pair_candidates p s n)));
    }

-- of the scripts that there are
unfoldable pub script_reasons : Parameters → Style → Nucleus → Option Size → Option Size → Option Reasons
script_reasons p s n none none = none
script_reasons p s n (some x) none = some record { up = chosen (superscript_candidates p s n x); down = unshifted }
script_reasons p s n none (some y) = some record { up = unshifted; down = chosen (subscript_candidates p s n y) }
script_reasons p s n (some x) (some y) = some (pair_reasons p s n x y)
