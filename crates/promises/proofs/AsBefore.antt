-- What change requests 2 and 4 leave as it was: a formula with no style change ST, no choice C4 and no fence FE in it, at any depth, is
-- answered as document 01 says, whose own definitions are in `Plain` of crate setting; and so it is over any client's table, with words
-- enough lent. What request 6 leaves as it was is in `OursAlone`, and request 9 in `LentLaws`.
--     result_before         what is found of a tree, by them
--     result_as_before     of a formula that reads to a plain tree the same is found; so measuring and setting answer the same, and the
--                          buffer is the same (`measured_as_before`, `set_as_before`)
-- Assumes nothing.
use Rattle.std.specs.Prelude.{◌≡◌, refl, true, List, ℕ, length}
use Rattle.std.proofs.Math.Path.{ap}
use Rattle.std.proofs.Common.{ap₂, ◌∙◌}
use Rattle.std.proofs.Math.Option.{Option, none, some}
use Rattle.font.specs.Table.{good_table, good_client}
use Rattle.font.specs.Font.{Font, font_with}
use Rattle.formula.specs.Tree.{Items}
use Rattle.formula.specs.Reading.{good, read_formula}
use Rattle.boxes.specs.declared.styles.Style.{Style}
use Rattle.boxes.specs.Styles.{style_of}
use Rattle.setting.specs.Setting.{no_sides}
use Rattle.setting.proofs.Plain.{Plain, set_plain, missing_plain, plain_fits, set_as_before as box-as-before, missing_as_before, fits_as_before}
use Rattle.answers.specs.Lent.{Lent, enough}
use Rattle.answers.specs.Answers.{Result, refused, missing_number, if_fits, if_present, if_read, result_of, measured_by, measured, measured_between, set_by, setting, setting_between, buffer_by, buffer_after, buffer_between}
use Rattle.answers.proofs.AnswersLaws.{read_is}

unfoldable pub present_before : Font → Style → Items → Option ℕ → Result
present_before F s l none = if_fits (plain_fits F s l) (set_plain F s l)
present_before F s l (some place) = refused missing_number place

unfoldable pub result_before : Font → Style → Items → Result
result_before F s l = present_before F s l (missing_plain F s l)

present_as_before : (F : Font) (s : Style) (l : Items) (o : Option ℕ) → Plain l → if_present F no_sides s l o ≡ present_before F s l o
unfolding if_present present_before
present_as_before F s l none h = ap₂ if_fits (fits_as_before F s l h) (box-as-before F s l h)
present_as_before F s l (some place) h = refl

module _ (style : ℕ) (table client : List ℕ) (lent : Lent) (formula : List ℕ) (s : Style) (l : Items) (style_is : style_of style ≡ some s)
    (table_good : good_table table ≡ true) (client_good : good_client table client ≡ true) (words_enough : enough lent ≡ true)
    (reads : read_formula formula ≡ good l) (h : Plain l) where
  pub result_as_before : result_of style table client lent formula ≡ result_before (font_with table client) s l
  unfolding if_read result_before
  result_as_before =
      let F = font_with table client in
      read_is no_sides style table client lent formula s style_is table_good client_good words_enough (good l) reads
      ∙ ap (if_present F no_sides s l) (missing_as_before F s l h)
      ∙ present_as_before F s l (missing_plain F s l) h

  pub measured_as_before : measured style table client lent formula ≡ measured_by (result_before (font_with table client) s l)
  unfolding measured_between
  measured_as_before = ap measured_by result_as_before

  pub set_as_before : (buffer : List ℕ) →
      (setting style table client lent formula (length buffer) ≡ set_by (length buffer) (result_before (font_with table client) s l))
      × (buffer_after style table client lent formula buffer ≡ buffer_by buffer (result_before (font_with table client) s l))
  unfolding setting_between buffer_between
  set_as_before buffer = (ap (set_by (length buffer)) result_as_before, ap (buffer_by buffer) result_as_before)
