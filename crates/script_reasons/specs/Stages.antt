-- What the names of reasons stand for at an item with scripts (change request 7), and the shifts that its scripts go through.
--     quantities       what is named of a shift that starts from candidates: the drop, which is 0 if the nucleus is plain, σ, the x-height
--                      term, and what the gap and ψ come to, where they are looked at
--     script_stages    of the scripts that there are
-- Assumes nothing.
use Rattle.std.proofs.Math.Option.{Option, none, some}
use Rattle.std.specs.Prelude.{ℤ, ◌+ℤ◌, ◌-ℤ◌}
use Rattle.boxes.specs.declared.styles.Style.{Style}
use Rattle.boxes.specs.Styles.{font_size}
use Rattle.boxes.specs.Parameters.{Parameters}
use Rattle.boxes.specs.Boxes.{Size}
use Rattle.nucleus.specs.Nucleus.{Nucleus}
use Rattle.reasons.specs.declared.Reason.{Reason}
use Rattle.reasons.specs.declared.Reason.TheVariants.{None, Drop, Sigma, XHeight, Gap, Psi, Clearance}
use Rattle.reasons.specs.Stages.{ShiftStages, BothStages}
use Rattle.scripts.specs.Scripts.{Candidates, greatest, subscript_candidates, superscript_candidates, superscript_up, pair_candidates, gap_down, ψ_of, pair_shifts}
use Rattle.script_reasons.specs.Reasons.{widened, first_shifts}

abbrev pub quantities : Candidates → Option ℤ → Option ℤ → Reason → Option ℤ
quantities c gap ψ None = none
quantities c gap ψ Drop = some c.dropped
quantities c gap ψ Sigma = some c.least
quantities c gap ψ XHeight = c.free
quantities c gap ψ Gap = gap
quantities c gap ψ Psi = ψ
quantities c gap ψ Clearance = none

-- a script alone: the greatest of its candidates stays
abbrev pub alone_stages : Candidates → ShiftStages
alone_stages c = record { quantity = quantities c none none; chosen = greatest c; parted = greatest c; final = greatest c }

module _ (p : Parameters) (s : Style) (n : Nucleus) (x y : Size) where
  -- u + ψ
  abbrev pub up_after_ψ : ℤ
  up_after_ψ = let u = superscript_up p s n x in u +ℤ ψ_of p (font_size s) x u

  -- the v with which the gap is four rules
  abbrev pub down_at_gap : ℤ
  down_at_gap = gap_down p (font_size s) x y (superscript_up p s n x)

  -- that less ψ
  abbrev pub down_after_ψ : ℤ
  down_after_ψ = down_at_gap -ℤ ψ_of p (font_size s) x (superscript_up p s n x)

  -- the gap moves the subscript alone
  abbrev pub pair_up_stages : ShiftStages
  pair_up_stages =
      let c = superscript_candidates p s n x in
      record { quantity = quantities c none (some up_after_ψ); chosen = greatest c; parted = greatest c; final = (pair_shifts p s n x y).up }

  abbrev pub pair_down_stages : ShiftStages
  pair_down_stages =
      let c = pair_candidates p s n in
      record {
        quantity = quantities c (some down_at_gap) (some down_after_ψ);
        chosen = greatest c;
        parted = widened p (font_size s) x y (first_shifts p s n x);
        final = (pair_shifts p s n x y).down;
      }

unfoldable pub script_stages : Parameters → Style → Nucleus → Option Size → Option Size → BothStages
script_stages p s n none none = record { up = none; down = none }
script_stages p s n (some x) none = record { up = some (alone_stages (superscript_candidates p s n x)); down = none }
script_stages p s n none (some y) = record { up = none; down = some (alone_stages (subscript_candidates p s n y)) }
script_stages p s n (some x) (some y) = record { up = some (pair_up_stages p s n x y); down = some (pair_down_stages p s n x y) }
