-- The functions that write a list and its parts meet their contracts. `put_list` calls `put_item`, that `put_scripted` or `put_fraction`; these
-- call `put_operand` for the first field, and for the others `put_script` or `put_behind`, which come to `put_operand` too; that calls
-- `put_group` on a shorter list, and that `put_list`. The measure is eight times the length of what is written, and one more for each of them
-- upward. Each goal follows from what its calls say by a law of `FieldsLaws`, `KindLaws` or `ListLaws`. The loop's invariant: whatever writes the
-- rest of the list from there on writes the whole.
-- Assumes nothing.
use mathlib.Core.Path.{◌≡◌, refl, sym, ap, subst, ◌∙◌}
use mathlib.Core.List.{List, [], ◌∷◌}
use Prim.Native.Nat.{ℕ, ◌+◌, ◌-◌, ◌≤◌}
use native.Mathlib.Omega.{arith}
use lib.ListN.{length, take, drop}
use Rattle.eqn_tokens.specs.Bytes.{same}
use Rattle.eqn_tokens.specs.BytesLaws.{rest_lent}
use Rattle.eqn_tokens.specs.Tokens.{keyword_of}
use Rattle.eqn_names.specs.Names.{asked_as}
use Rattle.formula.specs.declared.FieldHead.TheVariants.{Sublist}
use Rattle.formula.specs.Heads.{field_head}
use Rattle.formula.specs.HeadLaws.{head_fits, contents_shorter, list_opening_lem, opening_some}
use Rattle.formula.specs.Places.{head_bytes, contents, GoodField, field_end}
use Rattle.formula.specs.PlacesLaws.{good_some}
use Rattle.eqn_write.proofs.NameLaws.{text_size}
use Rattle.eqn_write.proofs.FieldsLaws.{lent_at, lent_length, behind_put, script_none, script_there, scripted_nucleus, scripted_below, scripted_done, fraction_above, fraction_done, field_other, field_empty, field_barred, field_symbol, field_list, group_textless, list_size_lem, group_done}
use Rattle.eqn_write.proofs.KindLaws.{fields_within, atom_asked, atom_done, operator_asked, operator_done, limitless_done, barred_asked, barred_done, unmade_done}
use Rattle.eqn_write.proofs.ListLaws.{reached_start, reached_done, reached_other, item_size_lem, reached_asked, reached_stop, reached_next}
use Rattle.eqn_write.proofs.writing.+writing.Goals as goal

-- ---- put_behind

pub put_behind-put_token-next-requires : goal.put_behind-put_token-next-requires
put_behind-put_token-next-requires t c = omega (arith, good_some _ _ refl c.requires.good)

pub put_behind-put_operand-requires : goal.put_behind-put_operand-requires
put_behind-put_operand-requires t c =
    let size = text_size c.args.at c.args.keyword.now in
    (omega arith, record { has = c.requires.has; good = c.requires.good; room = omega arith })

pub put_behind-returns : goal.put_behind-returns
put_behind-returns t c =
    let a = c.args in
    let put = c.put_token-next.ensures in
    behind_put a.names.now a.s.now a.keyword.now c.requires.short c.requires.later put.value put.out_after c.put_operand.ensures

-- ---- put_fraction

pub put_fraction-put_operand-requires : goal.put_fraction-put_operand-requires
put_fraction-put_operand-requires t c =
    let asked = c.requires in (
      omega (arith, lent_length c.args.s.now c.args.first),
      rw rest_lent (record { has = asked.has; good = asked.x; room = omega arith }),
    )

pub put_fraction-returns-in_err-next : goal.put_fraction-returns-in_err-next
put_fraction-returns-in_err-next t c =
    let a = c.args in
    rw c.from_residual.ensures (fraction_above a.names.now a.s.now a.first a.at (rw rest_lent at c.in_err-next.ensures))

pub put_fraction-put_behind-requires : goal.put_fraction-put_behind-requires
put_fraction-put_behind-requires t c =
    let s = c.args.s.now in
    let asked = c.requires in
    let above = (rw rest_lent at c.in_ok-next.ensures).ends in (
      omega (arith, lent_length s c.field_end-second.result),
      rw (lent_at s c.field_end-second.ensures.0) (record { has = asked.has; good = asked.y; short = omega arith; later = omega arith; room = omega arith }),
    )

pub put_fraction-returns : goal.put_fraction-returns
unfolding keyword_of same
put_fraction-returns t c =
    let a = c.args in
    fraction_done a.names.now a.s.now a.first a.at (rw rest_lent at c.in_ok-next.ensures)
    (rw (lent_at a.s.now c.field_end-second.ensures.0) at c.put_behind.ensures)

-- ---- put_group

pub put_group-put_list-requires : goal.put_group-put_list-requires
put_group-put_list-requires t c =
    let size = text_size c.args.at (123 ∷ []) in
    (omega arith, (c.requires.has, c.requires.readable, omega arith))

pub put_group-returns-in_err-behind : goal.put_group-returns-in_err-behind
put_group-returns-in_err-behind t c =
    let a = c.args in
    let put = c.put_token-inside.ensures in
    rw c.from_residual.ensures
    (group_textless a.names.now a.s.now a.at c.put_token-inside.result a.out.now c.put_token-inside.new.out put.value put.out_after
    c.in_err-behind.ensures.list_put)

pub put_group-put_token-requires : goal.put_group-put_token-requires
put_group-put_token-requires t c =
    let a = c.args in
    let put = c.put_token-inside.ensures in
    let list = c.in_ok-behind.ensures in
    let size =
    list_size_lem a.names.now a.s.now a.at c.put_token-inside.result a.out.now c.put_token-inside.new.out put.value put.out_after
    c.requires.has c.put_list.new.out list.list_put list.put_within in
    omega arith

pub put_group-returns : goal.put_group-returns
put_group-returns t c =
    let a = c.args in
    let put = c.put_token-inside.ensures in
    let list = c.in_ok-behind.ensures in
    group_done a.names.now a.s.now a.at c.put_token-inside.result a.out.now c.put_token-inside.new.out put.value put.out_after
    c.requires.has c.put_list.new.out list.list_put list.put_within c.put_token.ensures.value c.put_token.ensures.out_after

-- ---- put_item

pub put_item-put_scripted-requires : goal.put_item-put_scripted-requires
put_item-put_scripted-requires t c =
    let a = c.args in
    (omega arith, atom_asked a.names.now a.s.now a.kind a.at c.requires c.opening_bytes-first.ensures (sym c.in-PlainAtom.ensures))

pub put_item-returns-in-PlainAtom : goal.put_item-returns-in-PlainAtom
put_item-returns-in-PlainAtom t c =
    let a = c.args in
    atom_done a.names.now a.s.now a.kind a.at c.requires c.opening_bytes-first.ensures (sym c.in-PlainAtom.ensures) (rw c.from.ensures at c.put_scripted.ensures)

pub put_item-has_no_scripts-requires : goal.put_item-has_no_scripts-requires
put_item-has_no_scripts-requires t c =
    let a = c.args in
    fields_within a.names.now a.s.now a.kind a.at c.requires c.opening_bytes-first.ensures

pub put_item-returns-then-has_no_scripts : goal.put_item-returns-then-has_no_scripts
put_item-returns-then-has_no_scripts t c =
    let a = c.args in
    limitless_done a.names.now a.s.now a.kind a.at c.requires c.opening_bytes-first.ensures (sym c.in-Operator.ensures) (sym c.has_no_scripts.ensures ∙ c.if-has_no_scripts.true)

pub put_item-put_scripted-requires-in-Operator : goal.put_item-put_scripted-requires-in-Operator
put_item-put_scripted-requires-in-Operator t c =
    let a = c.args in
    (omega arith, operator_asked a.names.now a.s.now a.kind a.at c.requires c.opening_bytes-first.ensures (sym c.in-Operator.ensures))

pub put_item-returns-else-has_no_scripts : goal.put_item-returns-else-has_no_scripts
put_item-returns-else-has_no_scripts t c =
    let a = c.args in
    operator_done a.names.now a.s.now a.kind a.at c.requires c.opening_bytes-first.ensures (sym c.in-Operator.ensures)
    (sym c.has_no_scripts.ensures ∙ c.if-has_no_scripts.false) c.put_scripted-in-Operator.ensures

pub put_item-put_fraction-requires : goal.put_item-put_fraction-requires
put_item-put_fraction-requires t c =
    let a = c.args in
    (omega arith, barred_asked a.names.now a.s.now a.kind a.at c.requires c.opening_bytes-first.ensures (sym c.in-Barred.ensures))

pub put_item-returns-in-Barred : goal.put_item-returns-in-Barred
put_item-returns-in-Barred t c =
    let a = c.args in
    barred_done a.names.now a.s.now a.kind a.at c.requires c.opening_bytes-first.ensures (sym c.in-Barred.ensures) c.put_fraction.ensures

pub put_item-returns-in-Unmade : goal.put_item-returns-in-Unmade
put_item-returns-in-Unmade t c =
    let a = c.args in
    unmade_done a.names.now a.s.now a.kind a.at c.requires c.opening_bytes-first.ensures (sym c.in-Unmade.ensures)

-- ---- put_list

pub put_list-loop-from-init : goal.put_list-loop-from-init
put_list-loop-from-init t c =
    let a = c.args in
    reached_start a.names.now a.s.now a.at a.out.now c.requires.1

pub put_list-shape_of-out-in_default : goal.put_list-shape_of-out-in_default
put_list-shape_of-out-in_default t c = c.loop-from.invariant.as_long

pub put_list-returns-in_default : goal.put_list-returns-in_default
put_list-returns-in_default t c =
    let a = c.args in
    let turn = c.loop-from.invariant in
    record {
      put_within = tt;
      list_put = reached_other a.names.now a.s.now a.at a.out.now turn c.loop-from-test.true (rw rest_lent at c.opening.ensures) c.in_default.not-Fields;
    }

pub put_list-put_item-requires : goal.put_list-put_item-requires
put_list-put_item-requires t c =
    let a = c.args in
    let loop = c.loop-from in
    let opens = sym (rw rest_lent at c.in-Fields.ensures) in (
      omega (arith, lent_length a.s.now loop.from),
      rw rest_lent (reached_asked a.names.now a.s.now a.at a.out.now loop.invariant c.loop-from-test.true opens c.requires.0 c.requires.2),
    )

pub put_list-shape_of-out-in_err-end : goal.put_list-shape_of-out-in_err-end
put_list-shape_of-out-in_err-end t c = c.put_item.auto.out ∙ c.loop-from.invariant.as_long

pub put_list-returns-in_err-end-clause-list_put : goal.put_list-returns-in_err-end-clause-list_put
put_list-returns-in_err-end-clause-list_put t c =
    let a = c.args in
    let opens = sym (rw rest_lent at c.in-Fields.ensures) in
    rw c.from_residual.ensures
    (reached_stop a.names.now a.s.now a.at a.out.now c.loop-from.invariant c.loop-from-test.true opens (rw rest_lent at c.in_err-end.ensures))

pub put_list-fields_end-from-requires : goal.put_list-fields_end-from-requires
put_list-fields_end-from-requires t c = sym c.in-Fields.ensures

pub put_list-overflow_add-from : goal.put_list-overflow_add-from
put_list-overflow_add-from t c =
    let a = c.args in
    let loop = c.loop-from in
    let opens = sym (rw rest_lent at c.in-Fields.ensures) in
    let is = rw rest_lent at c.fields_end-from.ensures in
    let size = item_size_lem a.names.now a.s.now a.at a.out.now loop.invariant c.loop-from-test.true opens in
    omega arith

pub put_list-loop-from-smaller : goal.put_list-loop-from-smaller
put_list-loop-from-smaller t c =
    let a = c.args in
    let loop = c.loop-from in
    let opens = sym (rw rest_lent at c.in-Fields.ensures) in
    let is = rw rest_lent at c.fields_end-from.ensures in
    let size = item_size_lem a.names.now a.s.now a.at a.out.now loop.invariant c.loop-from-test.true opens in
    omega arith

pub put_list-loop-from-preserved : goal.put_list-loop-from-preserved
put_list-loop-from-preserved t c =
    let a = c.args in
    let loop = c.loop-from in
    let opens = sym (rw rest_lent at c.in-Fields.ensures) in
    let is = rw rest_lent at c.fields_end-from.ensures in
    rw is
    (reached_next a.names.now a.s.now a.at a.out.now loop.invariant c.loop-from-test.true opens c.put_item.auto.out
    (rw rest_lent at c.in_ok-end.ensures))

pub put_list-shape_of-out : goal.put_list-shape_of-out
put_list-shape_of-out t c = c.loop-from.invariant.as_long

pub put_list-returns : goal.put_list-returns
put_list-returns t c =
    let a = c.args in
    let loop = c.loop-from in
    record {
      put_within = omega (arith, loop.invariant.room, loop.invariant.within);
      list_put = reached_done a.names.now a.s.now a.at a.out.now loop.invariant c.loop-from-test.false;
    }

-- ---- put_operand

-- a list, behind its opening
record Listed (s : List ℕ) (opening n : ℕ) : Type 0 where
  opens : 3 ≤ opening
  fits : opening + n ≤ length s
  long : length (contents opening n s) ≡ n
  lent : take (opening + n - opening) (drop opening s) ≡ contents opening n s

listed : (s : List ℕ) (opening n : ℕ) → field_head s ≡ Sublist opening n → Listed s opening n
listed s opening n is =
    let size : opening + n - opening ≡ n = omega arith in
    record {
      opens = omega (arith, list_opening_lem s opening n is, opening_some n);
      fits = head_fits s (Sublist opening n) is;
      long = (contents_shorter s opening n is).0;
      lent = ap (λ (k : ℕ). take k (drop opening s)) size;
    }

pub put_operand-put_name-requires : goal.put_operand-put_name-requires
put_operand-put_name-requires t c =
    let size = ap head_bytes c.in-Symbol.ensures in
    (c.requires.has, omega arith)

pub put_operand-returns-in-Symbol : goal.put_operand-returns-in-Symbol
put_operand-returns-in-Symbol t c =
    let a = c.args in
    field_symbol a.names.now a.s.now a.at a.out.now (asked_as a.class) (sym c.in-Symbol.ensures) c.put_name.ensures

pub put_operand-overflow_add-end : goal.put_operand-overflow_add-end
put_operand-overflow_add-end t c =
    let a = c.args in
    let is = sym c.in-Sublist.ensures in
    let l = listed a.s.now c.in-Sublist.opening c.in-Sublist.n is in
    omega arith

pub put_operand-slice_bounds-put_group-count : goal.put_operand-slice_bounds-put_group-count
put_operand-slice_bounds-put_group-count t c =
    let a = c.args in
    let is = sym c.in-Sublist.ensures in
    let l = listed a.s.now c.in-Sublist.opening c.in-Sublist.n is in
    omega arith

pub put_operand-slice_bounds-put_group-start : goal.put_operand-slice_bounds-put_group-start
put_operand-slice_bounds-put_group-start t c =
    let a = c.args in
    let is = sym c.in-Sublist.ensures in
    let l = listed a.s.now c.in-Sublist.opening c.in-Sublist.n is in
    omega arith

pub put_operand-slice_bounds-put_group-end : goal.put_operand-slice_bounds-put_group-end
put_operand-slice_bounds-put_group-end t c =
    let a = c.args in
    let is = sym c.in-Sublist.ensures in
    let l = listed a.s.now c.in-Sublist.opening c.in-Sublist.n is in
    omega arith

pub put_operand-put_group-requires : goal.put_operand-put_group-requires
put_operand-put_group-requires t c =
    let a = c.args in
    let is = sym c.in-Sublist.ensures in
    let l = listed a.s.now c.in-Sublist.opening c.in-Sublist.n is in
    let size = ap head_bytes is in (
      omega (arith, ap (λ (x : List ℕ). length x) l.lent),
      rw l.lent (record { has = c.requires.has; readable = subst (GoodField a.s.now) is c.requires.good; room = omega arith }),
    )

pub put_operand-returns-then-not-takes_group : goal.put_operand-returns-then-not-takes_group
put_operand-returns-then-not-takes_group t c =
    let a = c.args in
    field_barred a.names.now a.s.now a.at a.out.now a.class (sym c.in-Sublist.ensures) (sym c.takes_group.ensures ∙ c.if-not-takes_group.true)

pub put_operand-returns-else-not-takes_group : goal.put_operand-returns-else-not-takes_group
put_operand-returns-else-not-takes_group t c =
    let a = c.args in
    let is = sym c.in-Sublist.ensures in
    let l = listed a.s.now c.in-Sublist.opening c.in-Sublist.n is in
    field_list a.names.now a.s.now a.at a.out.now a.class is (sym c.takes_group.ensures ∙ c.if-not-takes_group.false) l.long (rw l.lent at c.put_group.ensures)

pub put_operand-returns-in_default : goal.put_operand-returns-in_default
put_operand-returns-in_default t c =
    let a = c.args in
    field_empty a.names.now a.s.now a.at a.out.now (asked_as a.class) (sym c.field_head.ensures) (field_other a.s.now _ c.in_default.not-Symbol c.in_default.not-Sublist)

-- ---- put_script

pub put_script-returns-then-is_empty : goal.put_script-returns-then-is_empty
put_script-returns-then-is_empty t c =
    let a = c.args in
    script_none a.names.now a.s.now a.keyword.now (sym c.is_empty.ensures ∙ c.if-is_empty.true)

pub put_script-put_behind-requires : goal.put_script-put_behind-requires
put_script-put_behind-requires t c = (omega arith, c.requires)

pub put_script-returns : goal.put_script-returns
put_script-returns t c =
    let a = c.args in
    script_there a.names.now a.s.now a.keyword.now c.requires.good (sym c.is_empty.ensures ∙ c.if-is_empty.false) c.put_behind.ensures

-- ---- put_scripted

pub put_scripted-put_operand-requires : goal.put_scripted-put_operand-requires
put_scripted-put_operand-requires t c =
    let asked = c.requires in (
      omega (arith, lent_length c.args.s.now c.args.first),
      rw rest_lent (record { has = asked.has; good = asked.x; room = omega arith }),
    )

pub put_scripted-returns-in_err-behind : goal.put_scripted-returns-in_err-behind
put_scripted-returns-in_err-behind t c =
    let a = c.args in
    rw c.from_residual.ensures
    (scripted_nucleus a.names.now a.s.now a.first a.at (keyword_of a.lower.now) (keyword_of a.upper.now) (asked_as a.class)
    (rw rest_lent at c.in_err-behind.ensures))

pub put_scripted-put_script-requires : goal.put_scripted-put_script-requires
put_scripted-put_script-requires t c =
    let s = c.args.s.now in
    let asked = c.requires in
    let third = c.field_end-third.ensures.0 ∙ ap (field_end c.args.s.now) c.field_end-second.ensures.0 in
    let first = (rw rest_lent at c.in_ok-behind.ensures).ends in (
      omega (arith, lent_length s c.field_end-third.result),
      rw (lent_at s third) (record { has = asked.has; good = asked.z; short = asked.short.0; later = omega arith; room = omega arith }),
    )

pub put_scripted-returns-in_err-next : goal.put_scripted-returns-in_err-next
put_scripted-returns-in_err-next t c =
    let a = c.args in
    let third = c.field_end-third.ensures.0 ∙ ap (field_end c.args.s.now) c.field_end-second.ensures.0 in
    rw c.from_residual-in_err-next.ensures
    (scripted_below a.names.now a.s.now a.first a.at (keyword_of a.lower.now) (keyword_of a.upper.now) (asked_as a.class)
    (rw rest_lent at c.in_ok-behind.ensures) (rw (lent_at a.s.now third) at c.in_err-next.ensures))

pub put_scripted-put_script-requires-2 : goal.put_scripted-put_script-requires-2
put_scripted-put_script-requires-2 t c =
    let s = c.args.s.now in
    let asked = c.requires in
    let second = c.field_end-second.ensures.0 in
    let third = c.field_end-third.ensures.0 ∙ ap (field_end c.args.s.now) c.field_end-second.ensures.0 in
    let first = (rw rest_lent at c.in_ok-behind.ensures).ends in
    let below = (rw (lent_at s third) at c.in_ok-next.ensures).ends in (
      omega (arith, lent_length s c.field_end-second.result),
      rw (lent_at s second) (record { has = asked.has; good = asked.y; short = asked.short.1; later = omega arith; room = omega arith }),
    )

pub put_scripted-returns : goal.put_scripted-returns
put_scripted-returns t c =
    let a = c.args in
    let second = c.field_end-second.ensures.0 in
    let third = c.field_end-third.ensures.0 ∙ ap (field_end c.args.s.now) c.field_end-second.ensures.0 in
    scripted_done a.names.now a.s.now a.first a.at (keyword_of a.lower.now) (keyword_of a.upper.now) (asked_as a.class)
    (rw rest_lent at c.in_ok-behind.ensures) (rw (lent_at a.s.now third) at c.in_ok-next.ensures) (rw (lent_at a.s.now second) at c.put_script-2.ensures)
