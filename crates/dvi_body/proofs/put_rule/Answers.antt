-- `put_rule` meets its contract, by `rule_stores`.
-- Assumes nothing.
use mathlib.Core.Path.{◌∙◌}
use native.Mathlib.Omega.{arith}
use lib.ListN.{length-set}
use Rattle.dvi.proofs.Stores.{rule_stores}
use Rattle.dvi_body.proofs.put_rule.Goals as goal

pub put_number-requires : goal.put_number-requires
put_number-requires c = simp length-set (omega (arith, c.put_place.auto.out))

pub put_number-requires-2 : goal.put_number-requires-2
put_number-requires-2 c = omega (arith, simp length-set at c.put_number.auto.out, c.put_place.auto.out)

pub bounds-out-20 : goal.bounds-out-20
bounds-out-20 c =
    omega (arith, c.put_number-2.auto.out, simp length-set at c.put_number.auto.out, c.put_place.auto.out)

pub shape_of-out : goal.shape_of-out
shape_of-out c =
    simp length-set (c.put_number-2.auto.out ∙ c.put_number.auto.out ∙ simp length-set c.put_place.auto.out)

pub returns : goal.returns
returns c =
    let r = c.args.r in
    rule_stores c.args.out.now r.x.0 r.y.0 r.width.0 r.thickness.0 c.put_place.ensures
    c.put_number.ensures c.put_number-2.ensures
