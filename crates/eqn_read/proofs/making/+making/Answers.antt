-- The making cycle meets its contracts: `put_row` calls `put_item`, that `put_over` or `put_fields`, `put_over` calls `put_atom` or `put_operand`,
-- `put_atom` calls `put_fields`, that `put_operand` and `put_script`, and that `put_operand`; `put_operand` calls `put_primary`, or `put_over` with
-- one level less, and `put_primary` calls `put_row` with one level less.
-- At each call that may have been too large one fact says what is known there (`OverOpened`, `OverBegun`, `FieldsBegun`, ..), and each goal
-- follows by one law of `PrimaryLaws`, `ItemLaws` or `RowLaws`.
-- Assumes nothing.
use mathlib.Core.Path.{◌≡◌, refl, sym, ◌∙◌}
use native.Mathlib.Omega.{arith}
use lib.ListN.{drop}
use borrow.Author.Rules.{rules}
use Rattle.std.specs.Prelude.{Some, None}
use Rattle.eqn_tokens.specs.Tokens.{tokens_in}
use Rattle.eqn_tokens.specs.declared.tokens.TokenKind.TheVariants.{Word, End}
use Rattle.eqn_cuts.specs.CutLaws.{none_behind}
use Rattle.eqn_read.proofs.MeantLaws.{NotEmpty}
use Rattle.eqn_read.proofs.WordLaws.{token_some}
use Rattle.eqn_read.proofs.PrimaryLaws.{word_put, group_deep, GroupPut, group_stop, group_done, script_none, script_some, operand_bare, operand_deep, ListPut, operand_stop, operand_done}
use Rattle.eqn_read.proofs.ItemLaws.{FieldsBegun, fields_done, AtomOpened, atom_stop, atom_done, over_single, OverOpened, over_stop, OverBegun, over_first, over_done, item_whole, ItemOpened, item_stop, item_done}
use Rattle.eqn_read.proofs.RowLaws.{RowTurn, row_next, row_stop, row_done}
use Rattle.eqn_read.proofs.making.+making.Goals as goal

-- ---- a row

pub put_row-returns-then-eq-clause-row_made : goal.put_row-returns-then-eq-clause-row_made
put_row-returns-then-eq-clause-row_made t c =
    let ended : c.token_at.result.kind ≡ End = grind arith in
    (row_done c.loop-from.invariant c.up_to.result (rw ended at c.token_at.ensures.tokens) c.up_to.ensures).1

pub put_row-returns-in_err-end-clause-row_made : goal.put_row-returns-in_err-end-clause-row_made
put_row-returns-in_err-end-clause-row_made t c =
    let a = c.args in
    let other : c.token_at.result.kind ≡ End → ⊥ = grind arith in
    let turn : RowTurn a.index.now a.s.now a.levels a.at a.out.now c.loop-from.from c.loop-from.end c.loop-from.out c.expression_end-behind.result None c.put_item.new.out =
    record { left = c.loop-from.invariant; some = token_some c.token_at.ensures other; ends = c.expression_end-behind.ensures; item = (c.in_err-end.ensures.onward, c.in_err-end.ensures.item_made) } in
    rw c.from_residual.ensures (row_stop turn refl).1

pub put_row-loop-from-smaller : goal.put_row-loop-from-smaller
put_row-loop-from-smaller t c =
    let other : c.token_at.result.kind ≡ End → ⊥ = grind arith in
    let some : NotEmpty (tokens_in (drop c.loop-from.from c.args.s.now)) = token_some c.token_at.ensures other in
    omega (arith, c.expression_end-behind.ensures.onward some.0 some.1 some.2, c.expression_end-behind.ensures.within)

pub put_row-loop-from-preserved : goal.put_row-loop-from-preserved
put_row-loop-from-preserved t c =
    let a = c.args in
    let other : c.token_at.result.kind ≡ End → ⊥ = grind arith in
    let turn : RowTurn a.index.now a.s.now a.levels a.at a.out.now c.loop-from.from c.loop-from.end c.loop-from.out c.expression_end-behind.result (Some c.in_ok-end.end)
    c.put_item.new.out =
    record { left = c.loop-from.invariant; some = token_some c.token_at.ensures other; ends = c.expression_end-behind.ensures; item = (c.in_ok-end.ensures.onward, c.in_ok-end.ensures.item_made) } in
    row_next turn refl (search rules)

pub put_row-returns-clause-row_made : goal.put_row-returns-clause-row_made
put_row-returns-clause-row_made t c = (row_done c.loop-from.invariant c.up_to-2.result (none_behind _ c.loop-from-test.false) c.up_to-2.ensures).1

-- ---- an item

pub put_item-returns-then-from-s-clause-item_made : goal.put_item-returns-then-from-s-clause-item_made
put_item-returns-then-from-s-clause-item_made t c =
    let a = c.args in
    (item_whole a.index.now c.last_outside-to.ensures c.last_outside-from.ensures a.levels a.at a.out.now c.put_over.new.out c.put_over.result c.if-from-s.true (c.put_over.ensures.onward, c.put_over.ensures.over_made)).1

pub put_item-returns-in_err-next-clause-item_made : goal.put_item-returns-in_err-next-clause-item_made
put_item-returns-in_err-next-clause-item_made t c =
    let a = c.args in
    let opened : ItemOpened a.index.now a.s.now a.levels a.at a.out.now c.last_outside-to.result c.last_outside-from.result None c.put_bytes.new.out =
    record { at_to = c.last_outside-to.ensures; at_from = c.last_outside-from.ensures; there = c.if-from-s.false; opening = (c.in_err-next.ensures.ends, c.in_err-next.ensures.out_after) } in
    rw c.from_residual.ensures (item_stop opened refl).1

pub put_item-returns-clause-item_made : goal.put_item-returns-clause-item_made
put_item-returns-clause-item_made t c =
    let a = c.args in
    let opened : ItemOpened a.index.now a.s.now a.levels a.at a.out.now c.last_outside-to.result c.last_outside-from.result (Some c.in_ok-next.next) c.put_bytes.new.out =
    record { at_to = c.last_outside-to.ensures; at_from = c.last_outside-from.ensures; there = c.if-from-s.false; opening = (c.in_ok-next.ensures.ends, c.in_ok-next.ensures.out_after) } in
    (item_done opened c.put_fields.new.out c.put_fields.result refl (c.put_fields.ensures.onward, c.put_fields.ensures.fields_made)).1

-- ---- a fraction

pub put_over-returns-then-over-s-clause-over_made : goal.put_over-returns-then-over-s-clause-over_made
put_over-returns-then-over-s-clause-over_made t c =
    let a = c.args in
    (over_single a.index.now c.last_outside-over.ensures a.levels a.at a.out.now c.put_atom.new.out c.put_atom.result c.if-over-s.true (c.put_atom.ensures.onward, c.put_atom.ensures.atom_made)).1

pub put_over-returns-in_err-next-clause-over_made : goal.put_over-returns-in_err-next-clause-over_made
put_over-returns-in_err-next-clause-over_made t c =
    let a = c.args in
    let opened : OverOpened a.index.now a.s.now a.levels a.at a.out.now c.last_outside-over.result None c.put_bytes.new.out =
    record { split = c.last_outside-over.ensures; there = c.if-over-s.false; opening = (c.in_err-next.ensures.ends, c.in_err-next.ensures.out_after) } in
    rw c.from_residual.ensures (over_stop opened refl).1

pub put_over-returns-in_err-end-clause-over_made : goal.put_over-returns-in_err-end-clause-over_made
put_over-returns-in_err-end-clause-over_made t c =
    let a = c.args in
    let opened : OverOpened a.index.now a.s.now a.levels a.at a.out.now c.last_outside-over.result (Some c.in_ok-next.next) c.put_bytes.new.out =
    record { split = c.last_outside-over.ensures; there = c.if-over-s.false; opening = (c.in_ok-next.ensures.ends, c.in_ok-next.ensures.out_after) } in
    let begun : OverBegun a.index.now a.s.now a.levels a.at a.out.now c.last_outside-over.result (Some c.in_ok-next.next) c.put_bytes.new.out c.in_ok-next.next None c.put_operand.new.out =
    record { opened = opened; is = refl; above = (c.in_err-end.ensures.onward, c.in_err-end.ensures.operand_made) } in
    rw c.from_residual-in_err-end.ensures (over_first begun refl).1

pub put_over-returns-clause-over_made : goal.put_over-returns-clause-over_made
put_over-returns-clause-over_made t c =
    let a = c.args in
    let opened : OverOpened a.index.now a.s.now a.levels a.at a.out.now c.last_outside-over.result (Some c.in_ok-next.next) c.put_bytes.new.out =
    record { split = c.last_outside-over.ensures; there = c.if-over-s.false; opening = (c.in_ok-next.ensures.ends, c.in_ok-next.ensures.out_after) } in
    let begun : OverBegun a.index.now a.s.now a.levels a.at a.out.now c.last_outside-over.result (Some c.in_ok-next.next) c.put_bytes.new.out c.in_ok-next.next (Some c.in_ok-end.end) c.put_operand.new.out =
    record { opened = opened; is = refl; above = (c.in_ok-end.ensures.onward, c.in_ok-end.ensures.operand_made) } in
    (over_done begun c.put_operand-2.new.out c.put_operand-2.result refl (c.put_operand-2.ensures.onward, c.put_operand-2.ensures.operand_made)).1

-- ---- a word or a group with its scripts

pub put_atom-returns-in_err-next-clause-atom_made : goal.put_atom-returns-in_err-next-clause-atom_made
put_atom-returns-in_err-next-clause-atom_made t c =
    let a = c.args in
    let opened : AtomOpened a.index.now a.s.now a.levels a.at a.out.now c.last_outside-sup.result c.last_outside-sub.result c.class_of-class.result None c.put_bytes.new.out =
    record { at_sup = c.last_outside-sup.ensures; at_sub = c.last_outside-sub.ensures; found = c.class_of-class.ensures; opening = (c.in_err-next.ensures.ends, c.in_err-next.ensures.out_after) } in
    rw c.from_residual.ensures (atom_stop opened refl).1

pub put_atom-returns-clause-atom_made : goal.put_atom-returns-clause-atom_made
put_atom-returns-clause-atom_made t c =
    let a = c.args in
    let opened : AtomOpened a.index.now a.s.now a.levels a.at a.out.now c.last_outside-sup.result c.last_outside-sub.result c.class_of-class.result (Some c.in_ok-next.next) c.put_bytes.new.out =
    record { at_sup = c.last_outside-sup.ensures; at_sub = c.last_outside-sub.ensures; found = c.class_of-class.ensures; opening = (c.in_ok-next.ensures.ends, c.in_ok-next.ensures.out_after) } in
    (atom_done opened c.put_fields.new.out c.put_fields.result refl (c.put_fields.ensures.onward, c.put_fields.ensures.fields_made)).1

pub put_fields-returns-clause-fields_made : goal.put_fields-returns-clause-fields_made
put_fields-returns-clause-fields_made t c =
    let a = c.args in
    let begun : FieldsBegun a.index.now a.nucleus.now a.superscript.now a.subscript.now a.levels a.at a.out.now (Some c.in_ok-second.second) c.put_operand.new.out c.in_ok-second.second
    (Some c.in_ok-third.third) c.put_script.new.out =
    record { first = (c.in_ok-second.ensures.onward, c.in_ok-second.ensures.operand_made); is = refl; second = (c.in_ok-third.ensures.onward, c.in_ok-third.ensures.script_made) } in
    (fields_done begun c.put_script-2.new.out c.put_script-2.result refl (c.put_script-2.ensures.onward, c.put_script-2.ensures.script_made)).1

-- ---- a script and an operand

pub put_script-returns-then-is_empty-clause-script_made : goal.put_script-returns-then-is_empty-clause-script_made
put_script-returns-then-is_empty-clause-script_made t c =
    let a = c.args in
    (script_none a.index.now a.s.now a.levels a.at a.out.now c.put_bytes.new.out c.put_bytes.result (search rules) (c.put_bytes.ensures.ends, c.put_bytes.ensures.out_after)).1

pub put_script-returns-clause-script_made : goal.put_script-returns-clause-script_made
put_script-returns-clause-script_made t c =
    let a = c.args in
    (script_some a.index.now a.s.now a.levels a.at a.out.now c.put_operand.new.out c.put_operand.result (search rules) (c.put_operand.ensures.onward, c.put_operand.ensures.operand_made)).1

pub put_operand-returns-then-is_bare-clause-operand_made : goal.put_operand-returns-then-is_bare-clause-operand_made
put_operand-returns-then-is_bare-clause-operand_made t c =
    let a = c.args in
    (operand_bare a.index.now a.s.now a.levels a.at a.out.now c.put_primary.new.out c.put_primary.result (sym c.is_bare.ensures ∙ c.if-is_bare.true) (c.put_primary.ensures.onward, c.put_primary.ensures.primary_made)).1

pub put_operand-returns-then-levels-eq0-clause-operand_made : goal.put_operand-returns-then-levels-eq0-clause-operand_made
put_operand-returns-then-levels-eq0-clause-operand_made t c =
    let a = c.args in
    (operand_deep a.index.now a.s.now a.levels a.at a.out.now (sym c.is_bare.ensures ∙ c.if-is_bare.false) c.if-levels-eq0.true).1

pub put_operand-returns-in_err-end-clause-operand_made : goal.put_operand-returns-in_err-end-clause-operand_made
put_operand-returns-in_err-end-clause-operand_made t c =
    let a = c.args in
    let put : ListPut a.index.now a.s.now a.levels a.at a.out.now None c.put_over.new.out =
    record { more = sym c.is_bare.ensures ∙ c.if-is_bare.false; some = omega arith; over = (c.in_err-end.ensures.onward, c.in_err-end.ensures.over_made) } in
    rw c.from_residual.ensures (operand_stop put refl).1

pub put_operand-returns-clause-operand_made : goal.put_operand-returns-clause-operand_made
put_operand-returns-clause-operand_made t c =
    let a = c.args in
    let put : ListPut a.index.now a.s.now a.levels a.at a.out.now (Some c.in_ok-end.end) c.put_over.new.out =
    record { more = sym c.is_bare.ensures ∙ c.if-is_bare.false; some = omega arith; over = (c.in_ok-end.ensures.onward, c.in_ok-end.ensures.over_made) } in
    (operand_done put c.close_list.new.out c.close_list.result refl c.close_list.ensures).1

-- ---- a word or a group

pub put_primary-returns-then-eq-clause-primary_made : goal.put_primary-returns-then-eq-clause-primary_made
put_primary-returns-then-eq-clause-primary_made t c =
    let a = c.args in
    let word : c.token_at-token.result.kind ≡ Word = grind arith in
    (word_put a.index.now c.token_at-token.ensures a.levels a.at a.out.now c.put_found.new.out c.find-found.result c.put_found.result word c.find-found.ensures (c.put_found.ensures.ends, c.put_found.ensures.out_after)).1

pub put_primary-returns-then-levels-eq0-clause-primary_made : goal.put_primary-returns-then-levels-eq0-clause-primary_made
put_primary-returns-then-levels-eq0-clause-primary_made t c =
    let a = c.args in
    let other : c.token_at-token.result.kind ≡ Word → ⊥ = grind arith in
    (group_deep a.index.now c.token_at-token.ensures a.levels a.at a.out.now other c.if-levels-eq0.true).1

pub put_primary-returns-in_err-end-clause-primary_made : goal.put_primary-returns-in_err-end-clause-primary_made
put_primary-returns-in_err-end-clause-primary_made t c =
    let a = c.args in
    let other : c.token_at-token.result.kind ≡ Word → ⊥ = grind arith in
    let put : GroupPut a.index.now a.s.now a.levels a.at a.out.now c.token_at-token.result c.last_token.result None c.put_row.new.out =
    record { first = c.token_at-token.ensures; other = other; some = omega arith; ends = c.last_token.ensures; row = (c.in_err-end.ensures.onward, c.in_err-end.ensures.row_made) } in
    rw c.from_residual.ensures (group_stop put refl).1

pub put_primary-returns-clause-primary_made : goal.put_primary-returns-clause-primary_made
put_primary-returns-clause-primary_made t c =
    let a = c.args in
    let other : c.token_at-token.result.kind ≡ Word → ⊥ = grind arith in
    let put : GroupPut a.index.now a.s.now a.levels a.at a.out.now c.token_at-token.result c.last_token.result (Some c.in_ok-end.end) c.put_row.new.out =
    record { first = c.token_at-token.ensures; other = other; some = omega arith; ends = c.last_token.ensures; row = (c.in_ok-end.ensures.onward, c.in_ok-end.ensures.row_made) } in
    (group_done put c.close_list.new.out c.close_list.result refl c.close_list.ensures).1
