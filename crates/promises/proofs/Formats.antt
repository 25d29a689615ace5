-- What change request 8 leaves as it was: a formula that the short format accepts, document 01's, is answered as it was by it, with the
-- same nodes.
--     result_under        what is found where formulas are read in some format; in the one in use it is `result_between` (`under_long`)
--     result_on          of a formula that reads in a format with smaller numbers the same is found as in that one; so measuring and
--                        setting answer the same, and the buffer is the same (`measured-on`, `set_on`)
--     accepted_on        so of every formula that the short format accepts, whatever the style and the tables
--     kind_answered      of a formula of at most 4,096 bytes in which the short format comes to a field of kind 3 its answer is 3, at that
--                        field's item
--     long_answered      of a longer one it is 3 at 0; so of every formula with a field of kind 3 that is rightful, which has 65,536 bytes
--                        at least (`rightful_answered`)
-- Assumes nothing.
use Rattle.std.specs.Prelude.{◌≡◌, refl, Bool, true, false, ◌&&◌, List, [], ◌∷◌, ℕ, ◌-◌, ◌≤◌, ◌<◌, leb, eqb, length, drop}
use Rattle.std.proofs.Math.Path.{sym, ap}
use Rattle.std.proofs.Common.{◌∙◌, arith, length-take, length-drop, leb-true, leb-false, lt-ltb}
use Rattle.std.proofs.Math.Option.{Option, none, some}
use Rattle.laws.specs.Truths.{by_test}
use Rattle.words.specs.Words.{little_endian}
use Rattle.font.specs.Table.{good_table, good_client}
use Rattle.font.specs.Font.{Font, font_with}
use Rattle.formula.specs.declared.Fault.TheVariants.{Unreadable}
use Rattle.formula.specs.Format.{Format, short_format, long_format, formula_limit, depth_limit}
use Rattle.formula.specs.declared.FieldHead.TheVariants.{Sublist, CutSublist}
use Rattle.formula.specs.Tree.{Items, greatest_short, long_opening_bytes, list_opening_bytes}
use Rattle.formula.specs.Heads.{sublist_head, long_list_head, field_head_under, field_head}
use Rattle.formula.specs.HeadLaws.{list_opening_lem, opening_short, contents_shorter}
use Rattle.formula.specs.Reading.{Read, good, fault, read_formula_under}
use Rattle.formula.specs.FormatLaws.{formula_on, Meets, meeting_refused}
use Rattle.boxes.specs.declared.styles.Style.{Style}
use Rattle.boxes.specs.Styles.{style_of}
use Rattle.setting.specs.Setting.{Box, Sides, no_sides}
use Rattle.answers.specs.Lent.{Lent, enough}
use Rattle.answers.specs.Answers.{Result, boxed, refused, fault_number, if_read, if_enough, if_client, if_good, if_style, result_between, result_of, measured_by, measured_between, set_by, setting_between, buffer_by, buffer_between}
use Rattle.promises.specs.FieldBytes.{PartAt}

-- ---- what is found in a format

unfoldable pub result_under : Format → Sides → ℕ → List ℕ → List ℕ → Lent → List ℕ → Result
result_under f sides style table client lent formula = if_style sides table client lent (read_formula_under f formula) (style_of style)

pub under_long : (sides : Sides) (style : ℕ) (table client : List ℕ) (lent : Lent) (formula : List ℕ) →
    result_under long_format sides style table client lent formula ≡ result_between sides style table client lent formula
unfolding result_under result_between
under_long sides style table client lent formula = refl

-- ---- a formula that reads in a format with smaller numbers

module _ (f : Format) (longer : f.longest ≤ formula_limit) (deeper : f.deepest ≤ depth_limit) (sides : Sides) (style : ℕ)
    (table client : List ℕ) (lent : Lent) (formula : List ℕ) (l : Items) (reads : read_formula_under f formula ≡ good l) where
  pub result_on : result_between sides style table client lent formula ≡ result_under f sides style table client lent formula
  unfolding result_under
  result_on =
      sym (under_long sides style table client lent formula)
      ∙ ap (λ (r : Read). if_style sides table client lent r (style_of style)) (formula_on f longer deeper formula l reads ∙ sym reads)

  pub measured-on :
      measured_between sides style table client lent formula ≡ measured_by (result_under f sides style table client lent formula)
  unfolding measured_between
  measured-on = ap measured_by result_on

  pub set_on : (buffer : List ℕ) →
      let found = result_under f sides style table client lent formula in
      (setting_between sides style table client lent formula (length buffer) ≡ set_by (length buffer) found)
      × (buffer_between sides style table client lent formula buffer ≡ buffer_by buffer found)
  unfolding setting_between buffer_between
  set_on buffer = (ap (set_by (length buffer)) result_on, ap (buffer_by buffer) result_on)

-- ---- a formula that the short format accepts

-- what is accepted has been read
read_boxed : (F : Font) (sides : Sides) (s : Style) (r : Read) (b : Box) → if_read F sides s r ≡ boxed b → (l : Items) × (r ≡ good l)
unfolding if_read
read_boxed F sides s (good l) b e = (l, refl)
read_boxed F sides s (fault why place) b e = let z : ◌≡◌ {A = ℕ} 0 1 = cc in absurd (omega arith)

boxed_reads : (sides : Sides) (table client : List ℕ) (lent : Lent) (r : Read) (style : Option Style) (b : Box) →
    if_style sides table client lent r style ≡ boxed b → (l : Items) × (r ≡ good l)
unfolding if_style if_good if_client if_enough
boxed_reads sides table client lent r none b e = let z : ◌≡◌ {A = ℕ} 0 1 = cc in absurd (omega arith)
boxed_reads sides table client lent r (some s) b e = go (good_table table) (good_client table client) (enough lent) e
  where
    go : (t c w : Bool) → if_good t c w (font_with table client) sides s r ≡ boxed b → (l : Items) × (r ≡ good l)
    go true true true e = read_boxed (font_with table client) sides s r b e
    go true true false e = let z : ◌≡◌ {A = ℕ} 0 1 = cc in absurd (omega arith)
    go true false w e = let z : ◌≡◌ {A = ℕ} 0 1 = cc in absurd (omega arith)
    go false c w e = let z : ◌≡◌ {A = ℕ} 0 1 = cc in absurd (omega arith)

pub accepted_on : (style : ℕ) (table client : List ℕ) (lent : Lent) (formula : List ℕ) (b : Box) →
    result_under short_format no_sides style table client lent formula ≡ boxed b → result_of style table client lent formula ≡ boxed b
unfolding result_under
accepted_on style table client lent formula b e =
    let r = boxed_reads no_sides table client lent (read_formula_under short_format formula) (style_of style) b e in
    result_on short_format (omega arith) (omega arith) no_sides style table client lent formula r.0 r.1 ∙ e

-- ---- what the short format refuses with 3

-- a field of kind 3 that is a list has four bytes of length, and more than two bytes can count
long_kind : (r : List ℕ) (opening n : ℕ) → field_head (3 ∷ r) ≡ Sublist opening n → opening ≡ long_opening_bytes
unfolding field_head_under long_list_head sublist_head
long_kind [] opening n e = let z : ◌≡◌ {A = ℕ} 0 1 = cc in absurd (omega arith)
long_kind (a ∷ []) opening n e = let z : ◌≡◌ {A = ℕ} 0 1 = cc in absurd (omega arith)
long_kind (a ∷ b ∷ []) opening n e = let z : ◌≡◌ {A = ℕ} 0 1 = cc in absurd (omega arith)
long_kind (a ∷ b ∷ c ∷ []) opening n e = let z : ◌≡◌ {A = ℕ} 0 1 = cc in absurd (omega arith)
long_kind (a ∷ b ∷ c ∷ d ∷ r) opening n e =
    let m = little_endian 4 (a ∷ b ∷ c ∷ d ∷ []) in
    go (eqb long_opening_bytes (list_opening_bytes m) && leb m (length r)) e
  where
    go : (t : Bool) →
        elim t [ true ↦ Sublist long_opening_bytes (little_endian 4 (a ∷ b ∷ c ∷ d ∷ [])) | false ↦ CutSublist ] ≡ Sublist opening n →
        opening ≡ long_opening_bytes
    go true e = cc
    go false e = let z : ◌≡◌ {A = ℕ} 0 1 = cc in absurd (omega arith)

long_list_lem : (r : List ℕ) (opening n : ℕ) → field_head (3 ∷ r) ≡ Sublist opening n → greatest_short < length (3 ∷ r)
long_list_lem r opening n e = by_test (leb n greatest_short) short long
  where
    five : list_opening_bytes n ≡ long_opening_bytes
    five = sym (list_opening_lem (3 ∷ r) opening n e) ∙ long_kind r opening n e

    short : leb n greatest_short ≡ true → greatest_short < length (3 ∷ r)
    short t = absurd (omega (arith, five, opening_short n (leb-true n greatest_short t)))

    long : leb n greatest_short ≡ false → greatest_short < length (3 ∷ r)
    long t = omega (arith, leb-false n greatest_short t, (contents_shorter (3 ∷ r) opening n e).1)

module _ (style : ℕ) (table client : List ℕ) (lent : Lent) (formula : List ℕ) (s : Style) where
  -- where style, tables and words are good, the fault of the reading is answered
  fault_answered : style_of style ≡ some s → good_table table ≡ true → good_client table client ≡ true → enough lent ≡ true → (place : ℕ) →
      read_formula_under short_format formula ≡ fault Unreadable place →
      result_under short_format no_sides style table client lent formula ≡ refused (fault_number Unreadable) place
  unfolding result_under if_style if_good if_client if_enough if_read
  fault_answered is ours theirs words place e = rw (is, ours, theirs, words, e)

  pub kind_answered : (place : ℕ) → style_of style ≡ some s → good_table table ≡ true → good_client table client ≡ true →
      enough lent ≡ true → length formula ≤ short_format.longest → Meets short_format (short_format.deepest - 1) formula place →
      result_under short_format no_sides style table client lent formula ≡ refused (fault_number Unreadable) place
  kind_answered place is ours theirs words short meets =
      fault_answered is ours theirs words place (meeting_refused short_format refl formula place short meets)

  pub long_answered : style_of style ≡ some s → good_table table ≡ true → good_client table client ≡ true → enough lent ≡ true →
      short_format.longest < length formula →
      result_under short_format no_sides style table client lent formula ≡ refused (fault_number Unreadable) 0
  unfolding read_formula_under
  long_answered is ours theirs words long =
      fault_answered is ours theirs words 0 (rw (lt-ltb short_format.longest (length formula) long, read_formula_under))

  -- at some place of the formula stand bytes, a 3 first, that the format in use takes for a list field
  pub rightful_answered : style_of style ≡ some s → good_table table ≡ true → good_client table client ≡ true → enough lent ≡ true →
      (at opening n : ℕ) (r : List ℕ) → PartAt formula at (3 ∷ r) → field_head (3 ∷ r) ≡ Sublist opening n →
      result_under short_format no_sides style table client lent formula ≡ refused (fault_number Unreadable) 0
  rightful_answered is ours theirs words at opening n r part e =
      let whole = ap length part in
      let few = length-take (length (3 ∷ r)) (drop at formula) in
      long_answered is ours theirs words (omega (arith, long_list_lem r opening n e, whole, few, length-drop at formula))
