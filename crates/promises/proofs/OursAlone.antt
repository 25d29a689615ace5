-- What change request 6 leaves as it was: with an empty client's table, and words enough lent for both indexes, every formula, good or not,
-- is answered as it was before there were such tables.
--     result_by_ours     what was found, of ours alone: the tests without number 8, and the font of ours
--     result_by_ours_lem   with an empty client's table the same is found, of a list between any two sides; so measuring and setting answer
--                      the same, and the buffer is the same (`measured_by_ours`, `set_by_ours`)
-- Assumes nothing.
use Rattle.std.specs.Prelude.{◌≡◌, Bool, List, [], ℕ, length}
use Rattle.std.proofs.Math.Path.{refl, ap}
use Rattle.std.proofs.Math.Bool.{true, false}
use Rattle.std.proofs.Math.Option.{Option, none, some}
use Rattle.font.specs.Table.{good_table, good_client}
use Rattle.font.specs.Font.{Font, font_of, font_with}
use Rattle.font.specs.FontLaws.{with_empty, empty_client}
use Rattle.formula.specs.Reading.{Read, read_formula}
use Rattle.boxes.specs.declared.styles.Style.{Style}
use Rattle.boxes.specs.Styles.{style_of}
use Rattle.setting.specs.Setting.{Sides}
use Rattle.answers.specs.Lent.{Lent, enough}
use Rattle.answers.specs.Answers.{Result, refused, style_number, table_number, if_read, if_enough, if_client, if_good, if_style, result_between, measured_by, measured_between, set_by, setting_between, buffer_by, buffer_between}

-- ---- the tests before the request: 2, and then the reading

unfoldable pub good_by_ours : Bool → Font → Sides → Style → Read → Result
good_by_ours true F sides s r = if_read F sides s r
good_by_ours false F sides s r = refused table_number 0

-- 1
unfoldable pub style_by_ours : Sides → List ℕ → List ℕ → Option Style → Result
style_by_ours sides table formula none = refused style_number 0
style_by_ours sides table formula (some s) = good_by_ours (good_table table) (font_of table) sides s (read_formula formula)

unfoldable pub result_by_ours : Sides → ℕ → List ℕ → List ℕ → Result
result_by_ours sides style table formula = style_by_ours sides table formula (style_of style)

-- ---- with an empty client's table

module _ (sides : Sides) (style : ℕ) (table : List ℕ) (lent : Lent) (words_enough : enough lent ≡ true) (formula : List ℕ) where
  good_by_ours_lem : (s : Style) (t : Bool) → good_table table ≡ t →
      if_good t (good_client table []) (enough lent) (font_with table []) sides s (read_formula formula) ≡ good_by_ours t (font_of table) sides s (read_formula formula)
  unfolding if_good if_client if_enough good_by_ours
  good_by_ours_lem s true good = rw (empty_client table good, words_enough, with_empty table, if_client, if_enough) refl
  good_by_ours_lem s false bad = refl

  style_by_ours_lem : (s : Option Style) → if_style sides table [] lent (read_formula formula) s ≡ style_by_ours sides table formula s
  unfolding if_style style_by_ours
  style_by_ours_lem none = refl
  style_by_ours_lem (some s) = good_by_ours_lem s (good_table table) refl

  pub result_by_ours_lem : result_between sides style table [] lent formula ≡ result_by_ours sides style table formula
  unfolding result_between result_by_ours
  result_by_ours_lem = style_by_ours_lem (style_of style)

  pub measured_by_ours : measured_between sides style table [] lent formula ≡ measured_by (result_by_ours sides style table formula)
  unfolding measured_between
  measured_by_ours = ap measured_by result_by_ours_lem

  pub set_by_ours : (buffer : List ℕ) →
      (setting_between sides style table [] lent formula (length buffer) ≡ set_by (length buffer) (result_by_ours sides style table formula))
      × (buffer_between sides style table [] lent formula buffer ≡ buffer_by buffer (result_by_ours sides style table formula))
  unfolding setting_between buffer_between
  set_by_ours buffer = (ap (set_by (length buffer)) result_by_ours_lem, ap (buffer_by buffer) result_by_ours_lem)
