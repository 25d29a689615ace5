-- The answer of the thin program, which keeps the short format's limit (change request 8): it is that of setting, but that a formula over
-- this limit is unreadable at its first byte. So the tests before the reading, 1, 2, 8 and 19, come first for such a formula too.
--     thin_result, thin_setting, thin_buffer     what is found, what is answered, the node buffer after it
--     thin_short                              up to the limit all is as in setting
--     tested_first, long_unreadable           beyond it: the refusal of the empty formula, or 3 at 0 where the empty formula is accepted
-- Assumes nothing.
use Rattle.std.specs.Prelude.{◌≡◌, Bool, true, false, ℕ, ◌≤◌, ◌<◌, ltb, length}
use Rattle.std.proofs.Math.Path.{refl, sym, ap}
use Rattle.std.proofs.Common.{◌∙◌, arith, lt-ltb, le-ltb}
use mathlib.Core.List.{List, []}
use Rattle.std.proofs.Math.Option.{Option, none, some}
use Rattle.font.specs.Table.{good_table, good_client}
use Rattle.font.specs.Font.{Font, font_with}
use Rattle.formula.specs.declared.Fault.TheVariants.{Unreadable}
use Rattle.formula.specs.Format.{short_format}
use Rattle.formula.specs.Reading.{Read, fault, list_by, read_by, read_under, read_formula_under, read_formula}
use Rattle.boxes.specs.declared.styles.Style.{Style}
use Rattle.boxes.specs.Styles.{style_of}
use Rattle.nodes.specs.Bounds.{nodes_fit}
use Rattle.setting.specs.Setting.{no_sides, set_items, set_list}
use Rattle.setting.specs.Missing.{missing_items}
use Rattle.setting.specs.Fitting.{box_fits, items_fit, list_fits}
use Rattle.answers.specs.Lent.{Lent, enough}
use Rattle.answers.specs.Answers.{Result, refused, accepted_number, style_number, table_number, client_number, index_number, fault_number, if_fits, if_present, if_read, if_enough, if_client, if_good, if_style, result_between, Answered, refusal, measured_by, measured_between, measured, set_by, setting_between, setting, buffer_by, buffer_between, buffer_after}

-- ---- what is answered

unfoldable pub thin_read : List ℕ → Read
thin_read s = elim (ltb short_format.longest (length s)) [ true ↦ fault Unreadable 0 | false ↦ read_formula s ]

unfoldable pub thin_result : ℕ → List ℕ → List ℕ → Lent → List ℕ → Result
thin_result style table client lent formula = if_style no_sides table client lent (thin_read formula) (style_of style)

abbrev pub thin_setting : ℕ → List ℕ → List ℕ → Lent → List ℕ → ℕ → Answered
thin_setting style table client lent formula room = set_by room (thin_result style table client lent formula)

abbrev pub thin_buffer : ℕ → List ℕ → List ℕ → Lent → List ℕ → List ℕ → List ℕ
thin_buffer style table client lent formula buffer = buffer_by buffer (thin_result style table client lent formula)

-- ---- up to the limit

short_read : (formula : List ℕ) → length formula ≤ short_format.longest → thin_read formula ≡ read_formula formula
unfolding thin_read
short_read formula h = rw (le-ltb short_format.longest (length formula) h, thin_read) refl

pub thin_short : (style : ℕ) (table client : List ℕ) (lent : Lent) (formula buffer : List ℕ) → length formula ≤ short_format.longest →
    (setting style table client lent formula (length buffer) ≡ thin_setting style table client lent formula (length buffer))
    × (buffer_after style table client lent formula buffer ≡ thin_buffer style table client lent formula buffer)
unfolding thin_result setting_between buffer_between result_between
thin_short style table client lent formula buffer h =
    let same = ap (λ (r : Read). if_style no_sides table client lent r (style_of style)) (short_read formula h) in
    (sym (ap (set_by (length buffer)) same), sym (ap (buffer_by buffer) same))

-- ---- beyond it

-- the tests before the reading: they refuse whatever is read, or leave it to what is read
data Before (table client : List ℕ) (lent : Lent) (o : Option Style) : Type 0 where
  refuses : (number : ℕ) → 0 < number → ((r : Read) → if_style no_sides table client lent r o ≡ refused number 0) → Before table client lent o
  passes : (s : Style) → ((r : Read) → if_style no_sides table client lent r o ≡ if_read (font_with table client) no_sides s r) → Before table client lent o

before : (table client : List ℕ) (lent : Lent) (o : Option Style) → Before table client lent o
unfolding if_style if_good if_client if_enough
before table client lent none = refuses style_number (omega arith) (λ r. refl)
before table client lent (some s) = go (good_table table) (good_client table client) (enough lent) refl refl refl
  where
    go : (t c w : Bool) → good_table table ≡ t → good_client table client ≡ c → enough lent ≡ w → Before table client lent (some s)
    go false c w ours theirs words = refuses table_number (omega arith) (λ r. rw ours refl)
    go true false w ours theirs words = refuses client_number (omega arith) (λ r. rw (ours, theirs) refl)
    go true true false ours theirs words = refuses index_number (omega arith) (λ r. rw (ours, theirs, words) refl)
    go true true true ours theirs words = passes s (λ r. rw (ours, theirs, words) refl)

empty_accepted : (F : Font) (s : Style) → (measured_by (if_read F no_sides s (read_formula []))).number ≡ accepted_number
unfolding read_formula_under read_under read_by list_by if_read if_present if_fits measured_by missing_items list_fits box_fits items_fit nodes_fit set_list set_items
empty_accepted F s = refl

module _ (style : ℕ) (table client : List ℕ) (lent : Lent) (formula : List ℕ) (long : short_format.longest < length formula) where
  long_read : thin_read formula ≡ fault Unreadable 0
  unfolding thin_read
  long_read = rw (lt-ltb short_format.longest (length formula) long, thin_read) refl

  -- where the empty formula is refused, the refusal is the same
  pub tested_first : (buffer : List ℕ) (number : ℕ) → number ≡ (measured style table client lent []).number → 0 < number →
      (measured style table client lent [] ≡ thin_setting style table client lent formula (length buffer)) × (buffer ≡ thin_buffer style table client lent formula buffer)
  unfolding thin_result measured_between result_between measured_by set_by buffer_by
  tested_first buffer number answered more = go (before table client lent (style_of style))
    where
      go : Before table client lent (style_of style) →
          (measured style table client lent [] ≡ thin_setting style table client lent formula (length buffer)) × (buffer ≡ thin_buffer style table client lent formula buffer)
      go (refuses _ _ is) = (
        ap measured_by (is (read_formula [])) ∙ sym (ap (set_by (length buffer)) (is (thin_read formula))),
        sym (ap (buffer_by buffer) (is (thin_read formula))),
      )
      go (passes s is) =
          let none = ap (λ (r : Result). (measured_by r).number) (is (read_formula [])) ∙ empty_accepted (font_with table client) s in
          absurd (omega (arith, answered, more, none))

  -- where it is accepted, the formula is unreadable at its first byte
  pub long_unreadable : (buffer : List ℕ) (number : ℕ) → number ≡ (measured style table client lent []).number → number ≡ accepted_number →
      (refusal (fault_number Unreadable) 0 ≡ thin_setting style table client lent formula (length buffer)) × (buffer ≡ thin_buffer style table client lent formula buffer)
  unfolding thin_result measured_between result_between measured_by set_by buffer_by if_read
  long_unreadable buffer number answered zero = go (before table client lent (style_of style))
    where
      go : Before table client lent (style_of style) →
          (refusal (fault_number Unreadable) 0 ≡ thin_setting style table client lent formula (length buffer)) × (buffer ≡ thin_buffer style table client lent formula buffer)
      go (refuses _ more is) =
          let is_number = ap (λ (r : Result). (measured_by r).number) (is (read_formula [])) in
          absurd (omega (arith, answered, zero, is_number, more))
      go (passes s is) =
          let found = is (thin_read formula) ∙ ap (if_read (font_with table client) no_sides s) long_read in
          (sym (ap (set_by (length buffer)) found), sym (ap (buffer_by buffer) found))
