-- `put_place` meets its contract, by `place_stores`.
-- Assumes nothing.
use mathlib.Core.Path.{◌∙◌}
use native.Mathlib.Omega.{arith}
use lib.ListN.{length-set}
use Rattle.dvi.specs.Stores.{place_stores}
use Rattle.dvi_body.proofs.put_place.Goals as goal

pub bounds-out-at-2 : goal.bounds-out-at-2
bounds-out-at-2 c = simp length-set (omega arith)

pub put_number-requires : goal.put_number-requires
put_number-requires c = simp length-set (omega arith)

pub bounds-out-at-3 : goal.bounds-out-at-3
bounds-out-at-3 c = omega (arith, simp length-set at c.put_number.auto.out)

pub put_number-requires-2 : goal.put_number-requires-2
put_number-requires-2 c = simp length-set (omega (arith, simp length-set at c.put_number.auto.out))

pub shape_of-out : goal.shape_of-out
shape_of-out c = c.put_number-2.auto.out ∙ simp length-set (c.put_number.auto.out ∙ simp length-set)

pub returns : goal.returns
returns c =
    let args = c.args in
    place_stores args.out.now args.at args.x.0 args.y.0 c.negated-down.ensures.is c.put_number.ensures
    c.put_number-2.ensures
