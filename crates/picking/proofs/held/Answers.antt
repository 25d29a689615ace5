-- `held` meets its contract, by whether the field is a list.
-- Assumes nothing.
use native.Mathlib.Omega.{arith}
use borrow.Enum.Refused.{opened}
use Rattle.picking.proofs.PickingLaws.{head_short, held_other, held_sublist}
use Rattle.picking.proofs.held.Goals as goal

pub field_bytes-requires : goal.field_bytes-requires
field_bytes-requires c =
    let a = c.args in
    omega (arith, c.requires, head_short a.s.now a.at c.requires.0 c.requires.1 c.field_head-head.ensures)

pub overflow_add-end : goal.overflow_add-end
overflow_add-end c =
    let a = c.args in
    omega (arith, c.requires, c.field_bytes.ensures, head_short a.s.now a.at c.requires.0 c.requires.1 c.field_head-head.ensures)

pub returns-in_default : goal.returns-in_default
returns-in_default c =
    held_other c.args.s.now c.args.at c.requires.0 c.requires.1 c.field_head-head.ensures c.field_bytes.ensures (opened c.in_default.in_default-own.keys2)

pub overflow_add-result : goal.overflow_add-result
overflow_add-result c =
    let span = (held_sublist c.args.s.now c.args.at c.requires.0 c.requires.1 c.field_head-head.ensures c.field_bytes.ensures c.in-Sublist.is).span in
    omega (arith, c.requires, span.ordered, span.inside)

pub returns : goal.returns
returns c =
    held_sublist c.args.s.now c.args.at c.requires.0 c.requires.1 c.field_head-head.ensures c.field_bytes.ensures c.in-Sublist.is
