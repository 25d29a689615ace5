-- `list_place` meets its contract: each turn passes a list.
-- Assumes nothing.
use Rattle.std.proofs.Common.{◌≡◌, refl, ap, ◌∙◌, add-one, arith}
use Rattle.formula.specs.Places.{field_end, list_place}
use Rattle.formula.specs.HeadLaws.{opening_fits}
use Rattle.formula_fields.proofs.list_place.Goals as goal

pub loop-init : goal.loop-init
loop-init c = (opening_fits _ _ c.requires, refl)

pub field_end-at-requires : goal.field_end-at-requires
field_end-at-requires c = c.loop.invariant.0

pub loop-preserved : goal.loop-preserved
loop-preserved c =
    let next = c.field_end-at.ensures in
    (next.1, rw add-one (next.0 ∙ ap (field_end c.args.s.now) c.loop.invariant.1))

pub returns : goal.returns
returns c =
    let all : c.loop.counter ≡ c.args.n = omega arith in
    c.loop.invariant.1 ∙ ap (list_place c.args.s.now) all
