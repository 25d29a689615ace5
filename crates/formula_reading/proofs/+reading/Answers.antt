-- The reading cycle meets its contracts: `read_list` calls `read_item`, that `read_noad` or `read_choice`, these `read_held`, that `read_field`,
-- and that `read_list` on a shorter list. The measure is five times the length of what is read, and one more for each of them upward.
-- Each goal follows from what its calls say by a law of `VerdictLaws`. The loop's invariant: what the list says is what its
-- rest from `at` on says, `at` later.
-- Assumes nothing.
use mathlib.Core.Path.{◌≡◌, refl, sym, ap₂, ◌∙◌}
use mathlib.Core.Bool.{Bool, true, false}
use mathlib.Core.List.{List}
use Rattle.std.specs.Prelude.{Ok, Err}
use Rattle.std.proofs.lemmas.Result.{err_from_is_err_and}
use Prim.Native.Nat.{ℕ, ◌+◌, ◌-◌, ◌≤◌, ◌<◌}
use native.Mathlib.Omega.{arith}
use lib.ListN.{length, take, drop}
use Rattle.formula.specs.declared.Kind.{Kind}
use Rattle.formula.specs.declared.Opening.{Opening}
use Rattle.formula.specs.declared.Opening.TheVariants.{Fields}
use Rattle.formula.specs.declared.FieldHead.{FieldHead}
use Rattle.formula.specs.declared.FieldHead.TheVariants.{Sublist}
use Rattle.formula.specs.Format.{long_format}
use Rattle.formula.specs.Heads.{opening_of, field_head}
use Rattle.formula.specs.Reading.{field_by, field_at, opened_by, item_by, read}
use Rattle.formula_reading.specs.Values.{part_read_of}
use Rattle.formula.specs.Tree.{opening_bytes, holds_list}
use Rattle.formula.specs.HeadLaws.{list_opening_lem, opening_some, opening_fits}
use Rattle.formula_reading.proofs.VerdictLaws.{Part, turn_done, cut_short, held_yes, held_any, list_done, later_zero, fault_in, next_in, field_step, field_fits_lem, field_deep, cut_deep, field_list, held_says, held_list, held_no, held_next, first_says, noad_first, noad_second, noad_third, choice_said, turn_next, turn_stop, item_step, list_next, list_stop}
use Rattle.formula_reading.proofs.+reading.Goals as goal
use Rattle.formula_reading.proofs.+reading.Goals.{read_held-else-listed-via-then-listed+else-not-is_list, read_held-else-listed-via-else-listed}

-- the head that is matched is that of the field's bytes
abbrev bytes_from : ℕ → List ℕ → List ℕ
bytes_from at s = take (length s - at) (drop at s)

-- a list of n bytes behind its opening lies in its item
sublist_in : (levels at opening n : ℕ) (s : List ℕ) → field_head (bytes_from at s) ≡ Sublist opening n → at ≤ length s →
    (0 < opening) × (at + (opening + n) ≤ length s)
sublist_in levels at opening n s is low = (omega (arith, list_opening_lem _ _ _ is, opening_some n), field_fits_lem levels at s _ is low)

-- a field says what it says by its head, and an item by its opening
field_says_so : (levels at : ℕ) (s : List ℕ) (h : FieldHead) → field_head (bytes_from at s) ≡ h →
    part_read_of (field_by read levels at (drop at s) h) ≡ part_read_of (field_at long_format read levels s at)
field_says_so levels at s h is = sym (field_step levels at s h is)

item_says_so : (levels : ℕ) (s : List ℕ) (o : Opening) → opening_of s ≡ o →
    part_read_of (opened_by long_format read levels s o) ≡ part_read_of (item_by long_format read levels s)
item_says_so levels s o is = sym (item_step levels s o is)

-- ---- read_choice

pub read_choice-loop-init : goal.read_choice-loop-init
read_choice-loop-init t c = (omega (arith, opening_fits _ _ c.requires), choice_said _ _)

pub read_choice-read_held-requires : goal.read_choice-read_held-requires
read_choice-read_held-requires t c = (omega arith, c.loop.invariant.0)

pub read_choice-returns-in_err-at : goal.read_choice-returns-in_err-at
read_choice-returns-in_err-at t c =
    let passed = err_from_is_err_and c.from_residual.result c.from_residual.ensures.1 in
    let said = sym (c.in_err-at.ensures ∙ held_list _ _ _) in
    rw (passed.1, passed.2) (sym (c.loop.invariant.1 ∙ turn_stop _ _ _ _ c.loop-test.true said))

pub read_choice-loop-preserved : goal.read_choice-loop-preserved
read_choice-loop-preserved t c =
    let said = sym (c.in_ok-at.ensures ∙ held_list _ _ _) in (
      held_next _ _ _ _ _ c.loop.invariant.0 (sym c.in_ok-at.ensures),
      c.loop.invariant.1 ∙ turn_next _ _ _ _ c.loop-test.true said,
    )

pub read_choice-returns : goal.read_choice-returns
read_choice-returns t c = sym (c.loop.invariant.1 ∙ turn_done _ _ _ c.loop-test.false)

-- ---- read_field

pub read_field-returns-in-NoField : goal.read_field-returns-in-NoField
unfolding field_by part_read_of
read_field-returns-in-NoField t c =
    field_says_so _ _ _ _ (sym c.in-NoField.ensures)

pub read_field-overflow_add-result : goal.read_field-overflow_add-result
read_field-overflow_add-result t c =
    let is = sym c.in-Empty.ensures in
    omega (arith, field_fits_lem c.args.levels c.args.at c.args.s.now _ is c.requires)

pub read_field-returns-in-Empty : goal.read_field-returns-in-Empty
unfolding field_by part_read_of
read_field-returns-in-Empty t c =
    field_says_so _ _ _ _ (sym c.in-Empty.ensures)

pub read_field-overflow_add-result-in-Symbol : goal.read_field-overflow_add-result-in-Symbol
read_field-overflow_add-result-in-Symbol t c =
    let is = sym c.in-Symbol.ensures in
    omega (arith, field_fits_lem c.args.levels c.args.at c.args.s.now _ is c.requires)

pub read_field-returns-in-Symbol : goal.read_field-returns-in-Symbol
unfolding field_by part_read_of
read_field-returns-in-Symbol t c =
    field_says_so _ _ _ _ (sym c.in-Symbol.ensures)

pub read_field-returns-then-levels-eq0 : goal.read_field-returns-then-levels-eq0
read_field-returns-then-levels-eq0 t c =
    sym (field_deep _ _ _ _ _ (sym c.in-Sublist.ensures) c.if-levels-eq0.true)

pub read_field-overflow_add-start : goal.read_field-overflow_add-start
read_field-overflow_add-start t c =
    let inside = sublist_in c.args.levels _ _ _ _ (sym c.in-Sublist.ensures) c.requires in
    omega arith

pub read_field-overflow_add-end : goal.read_field-overflow_add-end
read_field-overflow_add-end t c =
    let inside = sublist_in c.args.levels _ _ _ _ (sym c.in-Sublist.ensures) c.requires in
    omega arith

pub read_field-slice_bounds-read_list-count : goal.read_field-slice_bounds-read_list-count
read_field-slice_bounds-read_list-count t c =
    let inside = sublist_in c.args.levels _ _ _ _ (sym c.in-Sublist.ensures) c.requires in
    omega arith

pub read_field-slice_bounds-read_list-start : goal.read_field-slice_bounds-read_list-start
read_field-slice_bounds-read_list-start t c =
    let inside = sublist_in c.args.levels _ _ _ _ (sym c.in-Sublist.ensures) c.requires in
    omega arith

pub read_field-slice_bounds-read_list-end : goal.read_field-slice_bounds-read_list-end
read_field-slice_bounds-read_list-end t c =
    let inside = sublist_in c.args.levels _ _ _ _ (sym c.in-Sublist.ensures) c.requires in
    omega arith

pub read_field-overflow_sub-levels : goal.read_field-overflow_sub-levels
read_field-overflow_sub-levels t c = omega arith

pub read_field-read_list-requires : goal.read_field-read_list-requires
read_field-read_list-requires t c =
    let inside = sublist_in c.args.levels _ _ _ _ (sym c.in-Sublist.ensures) c.requires in
    (omega arith, tt)

pub read_field-overflow_add-result-in-Err : goal.read_field-overflow_add-result-in-Err
read_field-overflow_add-result-in-Err t c =
    let inside = sublist_in c.args.levels _ _ _ _ (sym c.in-Sublist.ensures) c.requires in
    let says = fault_in _ _ _ (sym c.in-Err.ensures) in
    omega arith

pub read_field-returns-in-Ok : goal.read_field-returns-in-Ok
read_field-returns-in-Ok t c =
    sym (field_list c.args.levels c.args.at c.args.s.now _ _ (Ok tt) (sym c.in-Sublist.ensures) (omega arith) (sym c.in-Ok.ensures))

pub read_field-returns-in-Err : goal.read_field-returns-in-Err
read_field-returns-in-Err t c =
    sym (field_list c.args.levels c.args.at c.args.s.now _ _ (Err c.in-Err.e) (sym c.in-Sublist.ensures) (omega arith) (sym c.in-Err.ensures))

pub read_field-returns-then-levels-eq0-2 : goal.read_field-returns-then-levels-eq0-2
read_field-returns-then-levels-eq0-2 t c =
    sym (cut_deep _ _ _ (sym c.in-CutSublist.ensures) c.if-levels-eq0-2.true)

pub read_field-returns-else-levels-eq0-2 : goal.read_field-returns-else-levels-eq0-2
read_field-returns-else-levels-eq0-2 t c =
    sym (cut_short _ _ _ (sym c.in-CutSublist.ensures) (omega arith))

-- ---- read_held

pub read_held-returns-then-not-is_list : goal.read_held-returns-then-not-is_list
read_held-returns-then-not-is_list t c = sym (held_no _ _ _ _ c.if-listed.true (sym c.if-not-is_list.ensures))

pub read_held-returns : goal.read_held-returns
read_held-returns t c =
    c.read_field.ensures
    ∙ sym (elim c.else-listed.branch [
      | read_held-else-listed-via-then-listed+else-not-is_list w ↦ held_yes _ _ _ _ w.if-listed.true (sym w.if-not-is_list.ensures)
      | read_held-else-listed-via-else-listed w ↦ held_any _ _ _ _ w.if-listed.false
    ])

-- ---- read_item

pub read_item-returns-in-NoItem : goal.read_item-returns-in-NoItem
unfolding opened_by part_read_of
read_item-returns-in-NoItem t c =
    item_says_so _ _ _ (sym c.in-NoItem.ensures)

pub read_item-read_noad-requires : goal.read_item-read_noad-requires
read_item-read_noad-requires t c = (omega arith, sym c.in-Fields.ensures)

pub read_item-returns-in-Fields : goal.read_item-returns-in-Fields
unfolding opened_by
read_item-returns-in-Fields t c =
    c.read_noad.ensures ∙ item_says_so _ _ _ (sym c.in-Fields.ensures)

pub read_item-returns-in-Kern : goal.read_item-returns-in-Kern
unfolding opened_by part_read_of
read_item-returns-in-Kern t c = item_says_so _ _ _ (sym c.in-Kern.ensures)

pub read_item-returns-in-Restyle : goal.read_item-returns-in-Restyle
unfolding opened_by part_read_of
read_item-returns-in-Restyle t c =
    item_says_so _ _ _ (sym c.in-Restyle.ensures)

pub read_item-read_choice-requires : goal.read_item-read_choice-requires
read_item-read_choice-requires t c = (omega arith, sym c.in-Choice.ensures)

pub read_item-returns-in-Choice : goal.read_item-returns-in-Choice
unfolding opened_by
read_item-returns-in-Choice t c =
    c.read_choice.ensures ∙ item_says_so _ _ _ (sym c.in-Choice.ensures)

-- ---- read_list

pub read_list-loop-at-init : goal.read_list-loop-at-init
read_list-loop-at-init t c = (omega arith, sym (later_zero _))

pub read_list-read_item-requires : goal.read_list-read_item-requires
read_list-read_item-requires t c = (omega arith, tt)

pub read_list-overflow_add-at : goal.read_list-overflow_add-at
read_list-overflow_add-at t c =
    let next = list_next _ _ _ c.loop-at-test.true c.loop-at.invariant.1 _ c.in-Ok.ensures _ refl in
    omega (arith, next.1)

pub read_list-loop-at-smaller : goal.read_list-loop-at-smaller
read_list-loop-at-smaller t c =
    let next = list_next _ _ _ c.loop-at-test.true c.loop-at.invariant.1 _ c.in-Ok.ensures _ refl in
    omega (arith, next.0, next.1)

pub read_list-loop-at-preserved : goal.read_list-loop-at-preserved
read_list-loop-at-preserved t c =
    let next = list_next _ _ _ c.loop-at-test.true c.loop-at.invariant.1 _ c.in-Ok.ensures _ refl in
    (next.1, next.2)

pub read_list-overflow_add-result : goal.read_list-overflow_add-result
read_list-overflow_add-result t c =
    let stop = list_stop _ _ _ c.loop-at-test.true c.loop-at.invariant.1 _ c.in-Err.ensures _ refl in
    omega (arith, stop.0)

pub read_list-returns-in-Err : goal.read_list-returns-in-Err
read_list-returns-in-Err t c =
    let stop = list_stop _ _ _ c.loop-at-test.true c.loop-at.invariant.1 _ c.in-Err.ensures _ refl in
    sym stop.1

pub read_list-returns : goal.read_list-returns
read_list-returns t c =
    sym (list_done _ _ _ c.loop-at-test.false c.loop-at.invariant.1)

-- ---- read_noad

-- the opening lies in the list
fields_fit : (s : List ℕ) (kind : Kind) (n : ℕ) → opening_of s ≡ Fields kind → n ≡ opening_bytes kind → n ≤ length s
fields_fit s kind n opens is = let fits = opening_fits s (Fields kind) opens in omega (arith, fits, is)

-- what the first field says
first_said : (levels : ℕ) (s : List ℕ) (kind : Kind) {at : ℕ} {listed : Bool} {r : Part} → at ≡ opening_bytes kind → listed ≡ holds_list kind →
    r ≡ held_says levels s listed at → first_says levels s kind ≡ r
first_said levels s kind opening holds says = sym (says ∙ ap₂ (held_says levels s) holds opening)

pub read_noad-read_held-requires : goal.read_noad-read_held-requires
read_noad-read_held-requires t c =
    (omega arith, fields_fit c.args.s.now c.args.kind _ c.requires c.opening_bytes.ensures)

pub read_noad-returns-in_err-second : goal.read_noad-returns-in_err-second
read_noad-returns-in_err-second t c =
    let passed = err_from_is_err_and c.from_residual.result c.from_residual.ensures.1 in
    let a = c.args in
    let first = first_said a.levels a.s.now a.kind c.opening_bytes.ensures c.holds_list.ensures c.in_err-second.ensures in
    rw (passed.1, passed.2) (sym (noad_first a.levels a.s.now a.kind _ first))

pub read_noad-read_field-requires : goal.read_noad-read_field-requires
read_noad-read_field-requires t c =
    (omega arith, held_next _ _ _ _ _ (fields_fit c.args.s.now c.args.kind _ c.requires c.opening_bytes.ensures) (sym c.in_ok-second.ensures))

pub read_noad-returns-in_err-third : goal.read_noad-returns-in_err-third
read_noad-returns-in_err-third t c =
    let passed = err_from_is_err_and c.from_residual-in_err-third.result c.from_residual-in_err-third.ensures.1 in
    let a = c.args in
    let first = first_said a.levels a.s.now a.kind c.opening_bytes.ensures c.holds_list.ensures c.in_ok-second.ensures in
    rw (passed.1, passed.2) (sym (noad_second a.levels a.s.now a.kind _ first _ (sym c.in_err-third.ensures)))

pub read_noad-read_field-requires-then-has_third : goal.read_noad-read_field-requires-then-has_third
read_noad-read_field-requires-then-has_third t c =
    let second = held_next _ _ _ _ _ (fields_fit c.args.s.now c.args.kind _ c.requires c.opening_bytes.ensures) (sym c.in_ok-second.ensures) in
    (omega arith, next_in _ _ _ _ second (sym c.in_ok-third.ensures))

pub read_noad-returns-then-has_third : goal.read_noad-returns-then-has_third
read_noad-returns-then-has_third t c =
    let a = c.args in
    let first = first_said a.levels a.s.now a.kind c.opening_bytes.ensures c.holds_list.ensures c.in_ok-second.ensures in
    let has = sym c.has_third.ensures ∙ c.if-has_third.true in
    c.read_field-then-has_third.ensures ∙ sym (noad_third a.levels a.s.now a.kind _ first _ true (sym c.in_ok-third.ensures) has)

pub read_noad-returns-else-has_third : goal.read_noad-returns-else-has_third
read_noad-returns-else-has_third t c =
    let a = c.args in
    let first = first_said a.levels a.s.now a.kind c.opening_bytes.ensures c.holds_list.ensures c.in_ok-second.ensures in
    let has = sym c.has_third.ensures ∙ c.if-has_third.false in
    sym (noad_third a.levels a.s.now a.kind _ first _ false (sym c.in_ok-third.ensures) has)
