-- `taken_span` meets its contract: a choice that reads has a list there, and its head says where the items stand (`span_taken`).
-- Assumes nothing.
use Rattle.std.proofs.Common.{ap, ◌∙◌, arith}
use borrow.Enum.Refused.{opened}
use Rattle.formula.specs.Places.{list_place}
use Rattle.formula.specs.PlacesLaws.{choice_at_lem}
use Rattle.walk_looks.specs.Seen.{lists_before}
use Rattle.walk_looks.specs.TakenLaws.{taken_is_list, span_in, span_taken}
use Rattle.walk_looks.proofs.current.taken_span.Goals as goal

-- it stands at the list taken, which lies in the item
pub slice_bounds-field_head-count : goal.slice_bounds-field_head-count
slice_bounds-field_head-count c =
    let a = c.args in
    let place = c.list_place-at.ensures ∙ ap (list_place a.s.now) c.lists_before.ensures in
    omega (arith, place, (choice_at_lem a.s.now c.requires.1 c.requires.0).places_in (lists_before a.style))

pub slice_bounds-field_head-start : goal.slice_bounds-field_head-start
slice_bounds-field_head-start c =
    let a = c.args in
    let place = c.list_place-at.ensures ∙ ap (list_place a.s.now) c.lists_before.ensures in
    omega (arith, place, (choice_at_lem a.s.now c.requires.1 c.requires.0).places_in (lists_before a.style))

pub returns-in_default : goal.returns-in_default
returns-in_default c =
    let a = c.args in
    let place = c.list_place-at.ensures ∙ ap (list_place a.s.now) c.lists_before.ensures in
    absurd (taken_is_list a.style a.s.now (choice_at_lem a.s.now c.requires.1 c.requires.0) place c.field_head-head.ensures (opened c.in_default.in_default-own.keys2))

-- its head is that of a list
pub overflow_add-first : goal.overflow_add-first
overflow_add-first c =
    let a = c.args in
    let place = c.list_place-at.ensures ∙ ap (list_place a.s.now) c.lists_before.ensures in
    omega (arith, span_in a.style a.s.now (choice_at_lem a.s.now c.requires.1 c.requires.0) place c.field_head-head.ensures c.in-Sublist.is)

pub overflow_add-result : goal.overflow_add-result
overflow_add-result c =
    let a = c.args in
    let place = c.list_place-at.ensures ∙ ap (list_place a.s.now) c.lists_before.ensures in
    omega (arith, span_in a.style a.s.now (choice_at_lem a.s.now c.requires.1 c.requires.0) place c.field_head-head.ensures c.in-Sublist.is)

pub returns : goal.returns
returns c =
    let a = c.args in
    let place = c.list_place-at.ensures ∙ ap (list_place a.s.now) c.lists_before.ensures in
    span_taken a.style a.s.now (choice_at_lem a.s.now c.requires.1 c.requires.0) place c.field_head-head.ensures c.in-Sublist.is
