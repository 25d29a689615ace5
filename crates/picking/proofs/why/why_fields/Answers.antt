-- `why_fields` meets its contract: its three fields stand one behind another, and each has the shape that the walk gives it.
-- Assumes nothing.
use Rattle.std.proofs.Common.{◌≡◌, ℕ, List, ap, ◌∙◌, arith}
use Rattle.formula.specs.declared.Kind.{Kind}
use Rattle.formula.specs.Tree.{opening_bytes}
use Rattle.formula.specs.Places.{field_end, second, third}
use Rattle.formula.specs.PlacesLaws.{noad_at_lem}
use Rattle.picking.proofs.WhyLaws.{field_given, third_given, head_reasons}
use Rattle.picking.proofs.why.why_fields.Goals as goal

-- where its second field begins, and its third
module _ (s : List ℕ) (kind : Kind) {n end : ℕ} where
  second_is : n ≡ opening_bytes kind → end ≡ field_end s n → end ≡ second s kind
  second_is is ends = ends ∙ ap (field_end s) is

  third_is : n ≡ second s kind → end ≡ field_end s n → end ≡ third s kind
  third_is is ends = ends ∙ ap (field_end s) is

pub shape_of-x-requires : goal.shape_of-x-requires
shape_of-x-requires c =
    let noad = noad_at_lem c.args.s.now c.args.kind c.requires.1 c.requires.0.readable in
    field_given c.requires.0 c.opening_bytes-first.ensures noad.x
    (omega (arith, noad.first_in, noad.second_in, noad.third_in_lem, noad.end_in))

pub held-second-requires : goal.held-second-requires
held-second-requires c =
    let noad = noad_at_lem c.args.s.now c.args.kind c.requires.1 c.requires.0.readable in
    rw c.opening_bytes-first.ensures (noad.x, omega (arith, noad.first_in, noad.second_in, noad.third_in_lem, noad.end_in), c.requires.0.short)

pub shape_of-y-requires : goal.shape_of-y-requires
shape_of-y-requires c =
    let second_at = second_is c.args.s.now c.args.kind c.opening_bytes-first.ensures c.held-second.ensures.end_is in
    let noad = noad_at_lem c.args.s.now c.args.kind c.requires.1 c.requires.0.readable in
    field_given c.requires.0 second_at noad.y
    (omega (arith, noad.second_in, noad.third_in_lem, noad.end_in))

pub held-third-requires : goal.held-third-requires
held-third-requires c =
    let second_at = second_is c.args.s.now c.args.kind c.opening_bytes-first.ensures c.held-second.ensures.end_is in
    let noad = noad_at_lem c.args.s.now c.args.kind c.requires.1 c.requires.0.readable in
    rw second_at (noad.y, omega (arith, noad.second_in, noad.third_in_lem, noad.end_in), c.requires.0.short)

pub third_shape-z-requires : goal.third_shape-z-requires
third_shape-z-requires c =
    let second_at = second_is c.args.s.now c.args.kind c.opening_bytes-first.ensures c.held-second.ensures.end_is in
    let third_at = third_is c.args.s.now c.args.kind second_at c.held-third.ensures.end_is in
    let noad = noad_at_lem c.args.s.now c.args.kind c.requires.1 c.requires.0.readable in
    third_given c.requires.0 third_at _ noad.z (omega (arith, noad.third_in_lem, noad.end_in))

pub returns : goal.returns
returns c =
    let second_at = second_is c.args.s.now c.args.kind c.opening_bytes-first.ensures c.held-second.ensures.end_is in
    let third_at = third_is c.args.s.now c.args.kind second_at c.held-third.ensures.end_is in
    let a = c.args in
    head_reasons _ a.style a.kind a.s.now c.requires.1 c.requires.0.readable _ _ _ _ _ c.why_item.result c.parameters.ensures
    (rw (c.opening_bytes-first.ensures, c.first_manner-manner.ensures, c.first_style.ensures) at c.shape_of-x.ensures)
    (rw (second_at, c.second_style.ensures) at c.shape_of-y.ensures)
    (rw third_at at c.third_shape-z.ensures)
    c.signs_in-signs.ensures c.why_item.ensures
