-- What asking why a shift is what it is answers, for any bytes (change request 7): the refusals of measuring, then 9, and otherwise the
-- reasons of the item that starts at the place. What becomes of the lent words is as in measuring.
-- Assumes nothing.
use Rattle.std.specs.Prelude.{List, ℕ}
use Rattle.std.proofs.Math.Option.{Option, none, some}
use Rattle.font.specs.Font.{Font, font_with}
use Rattle.formula.specs.Reading.{Read, good, fault, read_formula}
use Rattle.boxes.specs.declared.styles.Style.{Style}
use Rattle.boxes.specs.Styles.{style_of}
use Rattle.reasons.specs.Reasons.{Reasons, unshifted}
use Rattle.setting.specs.Picked.{reasons_at}
use Rattle.answers.specs.Lent.{Lent}
use Rattle.answers.specs.Answers.{accepted_number, Result, boxed, refused, result_of}

-- no fraction, and no item whose scripts are set beside it, starts at the place
abbrev pub unpicked_number : ℕ
unpicked_number = 9

pub record WhyAnswered : Type 0 where
  pub number : ℕ
  pub place : ℕ
  pub reasons : Reasons

-- a refusal has no shifts
abbrev pub why_refusal : ℕ → ℕ → WhyAnswered
why_refusal number place =
    record { number = number; place = place; reasons = record { up = unshifted; down = unshifted } }

-- 9, and then the reasons
unfoldable pub if_picked : Option Reasons → WhyAnswered
if_picked none = why_refusal unpicked_number 0
if_picked (some r) = record { number = accepted_number; place = 0; reasons = r }

-- the refusals of measuring
unfoldable pub why_by : Result → Option Reasons → WhyAnswered
why_by (boxed b) r = if_picked r
why_by (refused number place) r = why_refusal number place

-- the reasons in a formula that reads, in a style that there is
unfoldable pub reasons_in : Font → Option Style → Read → ℕ → Option Reasons
reasons_in F none r place = none
reasons_in F (some s) (good l) place = reasons_at F s place l
reasons_in F (some s) (fault why at) place = none

unfoldable pub why_of : ℕ → List ℕ → List ℕ → Lent → List ℕ → ℕ → WhyAnswered
why_of style table client lent formula place =
    why_by (result_of style table client lent formula) (reasons_in (font_with table client) (style_of style) (read_formula formula) place)
