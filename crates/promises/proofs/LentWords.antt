-- The words that a call is lent for the indexes (change request 9), of a formula and of a list between any two sides. What measuring leaves
-- is `measuring_leaves` (answers/proofs/LentLaws.antt).
--     setting_leaves, why_leaves    setting and asking why leave the words for both indexes as measuring does, on 7 and on 9 too
--                                   (`unpicked_leaves`)
--     words_last, words_settle      what a call has built is left as it is by any later call with the same tables, and what any call has left
--                                   by the same call once more
--     few_refused, few_why, only_few, only_few_set, only_few_why    19 where style and tables are good and one of the two has fewer than 240 words,
--                                   and nowhere else
--     same_result, same_measured, same_set, same_why    where words enough are lent, the answers do not depend on how many more there are
-- Assumes nothing.
use Rattle.std.specs.Prelude.{◌≡◌, Bool, true, false, List, [], ◌++◌, ℕ, length, drop}
use Rattle.std.proofs.Math.Path.{refl, sym, ap}
use Rattle.std.proofs.Common.{ap₂, ◌∙◌, true≢false, arith, drop_at}
use Rattle.std.proofs.Math.Option.{Option, none, some}
use Rattle.font.specs.Records.{character_records, client_records}
use Rattle.font.specs.Table.{good_table, good_client}
use Rattle.font.specs.Font.{Font, font_with}
use Rattle.font_index.specs.Index.{index_words, index_of, Indexes}
use Rattle.formula.specs.Reading.{read_formula}
use Rattle.boxes.specs.declared.styles.Style.{Style}
use Rattle.boxes.specs.Styles.{style_of}
use Rattle.reasons.specs.Reasons.{Reasons}
use Rattle.setting.specs.Setting.{Box, Sides, no_sides}
use Rattle.font_index.specs.IndexLaws.{index_length}
use Rattle.answers.specs.Lent.{Lent, lends, lent_of, enough, builds, built_if, index_after, client_index_after}
use Rattle.answers.proofs.AnswersLaws.{few_words}
use Rattle.answers.proofs.LentLaws.{Few, few_is, is_few, early, found_number, read_late, result_early, measured_number, WordsLeft, left_by, measuring_leaves}
use Rattle.answers.specs.Answers.{Result, boxed, refused, index_number, no_room_number, if_enough, if_client, if_good, if_style, result_between, result_of, Answered, accepted, refusal, measured_by, measured_between, has_room, set_by, setting_between, buffer_by, buffer_between}
use Rattle.answers.specs.Why.{unpicked_number, why_refusal, if_picked, why_by, reasons_in, why_of}

-- ---- setting

-- setting gives the number that is found, or 7
roomy_late : (b : Box) (t : Bool) →
    let a : Answered = elim t [ true ↦ accepted b | false ↦ refusal no_room_number 0 ] in
    early a.number ≡ false
unfolding early
roomy_late b true = refl
roomy_late b false = refl

set_early : (room : ℕ) (r : Result) → early (set_by room r).number ≡ early (found_number r)
unfolding set_by found_number early
set_early room (boxed b) = roomy_late b (has_room room b)
set_early room (refused number place) = refl

-- 19 is early, so that setting gives it only where it is found
not_late : {n : ℕ} → n ≡ index_number → early n ≡ false → ⊥
unfolding early
not_late e h = true≢false (ap early (sym e) ∙ h)

set_number : (room : ℕ) (r : Result) → (set_by room r).number ≡ index_number → found_number r ≡ index_number
unfolding set_by found_number
set_number room (boxed b) e = absurd (not_late e (roomy_late b (has_room room b)))
set_number room (refused number place) e = e

module _ (sides : Sides) (style : ℕ) (table client i j formula : List ℕ) where
  pub setting_leaves : (room : ℕ) → WordsLeft (setting_between sides style table client (lent_of i j) formula room).number style table client i j
  unfolding setting_between
  setting_leaves room =
      left_by _ style table client i j
      (set_early room (result_between sides style table client (lent_of i j) formula) ∙ result_early sides style table client (lent_of i j) formula)

-- ---- asking why

-- it gives the number that is found, or 9
why_early : (r : Result) (o : Option Reasons) → early (why_by r o).number ≡ early (found_number r)
unfolding why_by if_picked found_number early
why_early (boxed b) none = refl
why_early (boxed b) (some r) = refl
why_early (refused number place) o = refl

why_number : (r : Result) (o : Option Reasons) → (why_by r o).number ≡ index_number → found_number r ≡ index_number
unfolding why_by if_picked found_number
why_number (boxed b) none e = absurd (omega arith)
why_number (boxed b) (some r) e = absurd (omega arith)
why_number (refused number place) o e = e

module _ (style : ℕ) (table client i j formula : List ℕ) (place : ℕ) where
  pub why_leaves : WordsLeft (why_of style table client (lent_of i j) formula place).number style table client i j
  unfolding why_of
  why_leaves =
      left_by _ style table client i j
      (why_early (result_of style table client (lent_of i j) formula) _ ∙ result_early no_sides style table client (lent_of i j) formula)

  -- a refusal 9 has built both
  pub unpicked_leaves : (why_of style table client (lent_of i j) formula place).number ≡ unpicked_number →
      Indexes (index_after style table client i j) (character_records table)
      × Indexes (client_index_after style table client i j) (client_records client)
  unfolding early
  unpicked_leaves e = (why_leaves.index_left.built (ap early e), why_leaves.client_index_left.built (ap early e))

-- ---- a second call

built_twice : (b again : Bool) (l : List (List ℕ)) (words : List ℕ) → (again ≡ true → b ≡ true) →
    built_if again l (built_if b l words) ≡ built_if b l words
unfolding built_if
built_twice true true l words h = ap (λ (r : List ℕ). index_of l ++ r) (drop_at (index_of l) (drop index_words words) index_words (index_length l))
built_twice false true l words h = absurd (true≢false (sym (h refl)))
built_twice b false l words h = refl

module _ (style : ℕ) (table client i j : List ℕ) where
  abbrev i' : List ℕ
  i' = index_after style table client i j

  abbrev j' : List ℕ
  j' = client_index_after style table client i j

  pub words_last : (later : ℕ) → builds style table client (lent_of i j) ≡ true →
      (index_after later table client i' j' ≡ i') × (client_index_after later table client i' j' ≡ j')
  words_last later h = (built_twice _ _ (character_records table) i (λ _. h), built_twice _ _ (client_records client) j (λ _. h))

  pub words_settle : (index_after style table client i' j' ≡ i') × (client_index_after style table client i' j' ≡ j')
  words_settle =
      let w = measuring_leaves no_sides style table client i j [] in
      let same = ap₂ (λ (m n : ℕ). builds style table client (lends m n)) w.index_left.same_length w.client_index_left.same_length in
      (built_twice _ _ (character_records table) i (λ h. sym same ∙ h), built_twice _ _ (client_records client) j (λ h. sym same ∙ h))

-- ---- 19

pub record FewWords (style : ℕ) (table client : List ℕ) (lent : Lent) : Type 0 where
  pub s : Style
  pub style_is : style_of style ≡ some s
  pub table_good : good_table table ≡ true
  pub client_good : good_client table client ≡ true
  pub few : Few lent

module _ (sides : Sides) (style : ℕ) (table client : List ℕ) (lent : Lent) (formula : List ℕ) where
  abbrev found : Result
  found = result_between sides style table client lent formula

  few_found : FewWords style table client lent → found ≡ refused index_number 0
  few_found h = few_words sides style table client lent formula h.s h.style_is h.table_good h.client_good (few_is lent h.few)

  pub few_refused : FewWords style table client lent →
      (measured_between sides style table client lent formula ≡ refusal index_number 0)
      × ((room : ℕ) → setting_between sides style table client lent formula room ≡ refusal index_number 0)
  unfolding measured_between measured_by setting_between set_by
  few_refused h = (ap measured_by (few_found h), λ room. ap (set_by room) (few_found h))

  only_found : found_number found ≡ index_number → FewWords style table client lent
  unfolding result_between if_style if_good if_client if_enough found_number
  only_found = styled (style_of style) refl
    where
      F : Font
      F = font_with table client

      tested : (s : Style) (t c w : Bool) → found_number (if_good t c w F sides s (read_formula formula)) ≡ index_number →
          (t ≡ true) × (c ≡ true) × (w ≡ false)
      tested s true true true e = absurd (not_late e (read_late sides F s (read_formula formula)))
      tested s true true false e = (refl, refl, refl)
      tested s true false w e = absurd (omega arith)
      tested s false c w e = absurd (omega arith)

      styled : (o : Option Style) → style_of style ≡ o → found_number (if_style sides table client lent (read_formula formula) o) ≡ index_number →
          FewWords style table client lent
      styled none is e = absurd (omega arith)
      styled (some s) is e =
          let t = tested s (good_table table) (good_client table client) (enough lent) e in
          record { s = s; style_is = is; table_good = t.0; client_good = t.1; few = is_few lent t.2 }

  pub only_few : (measured_between sides style table client lent formula).number ≡ index_number → FewWords style table client lent
  unfolding measured_between
  only_few e = only_found (measured_number found ∙ e)

  pub only_few_set : (room : ℕ) → (setting_between sides style table client lent formula room).number ≡ index_number → FewWords style table client lent
  unfolding setting_between
  only_few_set room e = only_found (set_number room found e)

module _ (style : ℕ) (table client : List ℕ) (lent : Lent) (formula : List ℕ) (place : ℕ) where
  pub few_why : FewWords style table client lent → why_of style table client lent formula place ≡ why_refusal index_number 0
  unfolding why_of why_by
  few_why h =
      let reasons = reasons_in (font_with table client) (style_of style) (read_formula formula) place in
      ap (λ (r : Result). why_by r reasons) (few_found no_sides style table client lent formula h)

  pub only_few_why : (why_of style table client lent formula place).number ≡ index_number → FewWords style table client lent
  unfolding why_of
  only_few_why e = only_found no_sides style table client lent formula (why_number _ _ e)

-- ---- words beyond those that are enough

module _ (a b : Lent) (a-enough : enough a ≡ true) (b-enough : enough b ≡ true) (sides : Sides) (style : ℕ) (table client formula : List ℕ) where
  pub same_result : result_between sides style table client a formula ≡ result_between sides style table client b formula
  unfolding result_between if_style
  same_result = go (style_of style)
    where
      go : (o : Option Style) → if_style sides table client a (read_formula formula) o ≡ if_style sides table client b (read_formula formula) o
      go none = refl
      go (some s) =
          ap (λ (w : Bool). if_good (good_table table) (good_client table client) w (font_with table client) sides s (read_formula formula))
          (a-enough ∙ sym b-enough)

  pub same_measured : measured_between sides style table client a formula ≡ measured_between sides style table client b formula
  unfolding measured_between
  same_measured = ap measured_by same_result

  pub same_set : (buffer : List ℕ) →
      (setting_between sides style table client a formula (length buffer) ≡ setting_between sides style table client b formula (length buffer))
      × (buffer_between sides style table client a formula buffer ≡ buffer_between sides style table client b formula buffer)
  unfolding setting_between buffer_between
  same_set buffer = (ap (set_by (length buffer)) same_result, ap (buffer_by buffer) same_result)

pub same_why : (a b : Lent) → enough a ≡ true → enough b ≡ true → (style : ℕ) (table client formula : List ℕ) (place : ℕ) →
    why_of style table client a formula place ≡ why_of style table client b formula place
unfolding why_of
same_why a b a-enough b-enough style table client formula place =
    let reasons = reasons_in (font_with table client) (style_of style) (read_formula formula) place in
    ap (λ (r : Result). why_by r reasons) (same_result a b a-enough b-enough no_sides style table client formula)
