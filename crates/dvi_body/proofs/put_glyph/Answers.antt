-- `put_glyph` meets its contract, by `glyph_stores`.
-- Assumes nothing.
use mathlib.Core.Path.{◌∙◌}
use native.Mathlib.Omega.{arith}
use lib.ListN.{length-set}
use Rattle.dvi.specs.Stores.{glyph_stores}
use Rattle.dvi_body.proofs.put_glyph.Goals as goal

pub put_place-requires : goal.put_place-requires
put_place-requires c = simp length-set (omega arith)

pub bounds-out-12 : goal.bounds-out-12
bounds-out-12 c = omega (arith, simp length-set at c.put_place.auto.out)

pub bounds-out-13 : goal.bounds-out-13
bounds-out-13 c = simp length-set (omega (arith, simp length-set at c.put_place.auto.out))

pub bounds-out-14 : goal.bounds-out-14
bounds-out-14 c = simp length-set (omega (arith, simp length-set at c.put_place.auto.out))

pub shape_of-out : goal.shape_of-out
shape_of-out c = simp length-set (c.put_place.auto.out ∙ simp length-set)

pub returns : goal.returns
returns c =
    let g = c.args.g in
    glyph_stores c.args.out.now g.x.0 g.y.0 g.size g.family g.code c.put_place.ensures
