-- What asking why answers, from what was found of the formula.
--     picked_is       an item that is picked, or none
--     why_is          what decided the shifts of an item
--     why_refused     a formula that is refused
-- Assumes nothing.
use mathlib.Core.Path.{◌≡◌, refl, sym, ap, ap₂, ◌∙◌}
use mathlib.Core.List.{List}
use mathlib.Core.Option.{Option as OptionOf}
use Prim.Native.Nat.{ℕ}
use Rattle.std.specs.Prelude.{Option, Some, None, Err, ok_or}
use Rattle.font.specs.Font.{font_with}
use Rattle.formula.specs.Reading.{Read, read_formula}
use Rattle.formula.specs.Places.{tree_of}
use Rattle.boxes.specs.declared.styles.Style.{Style}
use Rattle.boxes.specs.declared.Size.{Size}
use Rattle.boxes.specs.Styles.{style_of}
use Rattle.reasons.specs.declared.Reasons.{Reasons as CodeReasons}
use Rattle.reasons.specs.Values.{item_reasons_as}
use Rattle.answers.specs.Lent.{Lent}
use Rattle.answers.specs.Answers.{Result, result_of, Answered}
use Rattle.answers.specs.Why.{why_refusal, if_picked, why_by, reasons_in, why_of}
use Rattle.picking.specs.Picking.{PlaceReasonsAre}
use Rattle.layout_answers.specs.declared.Refusal.{Refusal}
use Rattle.layout_answers.specs.declared.why.WhyRefusal.TheVariants.{Unpicked, Refused}
use Rattle.layout_answers.specs.Values.{why_answer_as}
use Rattle.layout_find.specs.Found.{Refuses, Reads, Boxes}
use Rattle.layout_find.specs.FoundLaws.{found_is}

pub picked_is : (e : Option CodeReasons) → why_answer_as (ok_or e Unpicked) ≡ if_picked (item_reasons_as e)
unfolding if_picked
picked_is None = refl
picked_is (Some r) = refl

module _ (style : ℕ) (table client : List ℕ) (lent : Lent) (formula : List ℕ) where
  module _ (i j : List ℕ) (s : Style) (g : Reads style table client lent formula i j s) (z : Size) (n : ℕ) (h : Boxes s table client formula z n) where
    pub why_is : (place : ℕ) (e : Option CodeReasons) → PlaceReasonsAre (font_with table client) s place (tree_of formula) e →
        if_picked (item_reasons_as e) ≡ why_of style table client lent formula place
    unfolding why_of why_by reasons_in
    why_is place e tells =
        ap if_picked (tells h.none_missing h.fits)
        ∙ sym (ap (λ (r : Result). why_by r (reasons_in (font_with table client) (style_of style) (read_formula formula) place)) (found_is g h)
        ∙ ap₂ (λ (u : OptionOf Style) (r : Read). if_picked (reasons_in (font_with table client) u r place)) g.style_is g.tree_is)

  module _ (r : Refusal) (h : Refuses r (result_of style table client lent formula)) where
    pub why_refused : (place : ℕ) → why_answer_as (Err (Refused r)) ≡ why_of style table client lent formula place
    unfolding why_of why_by
    why_refused place =
        ap (λ (a : Answered). why_refusal a.number a.place) h.answer_is
        ∙ sym (ap (λ (r : Result). why_by r (reasons_in (font_with table client) (style_of style) (read_formula formula) place)) h.result_is)
