-- `is_glyph` makes the tests of `stored-glyph`.
-- Assumes nothing.
use Rattle.dvi.specs.LeadLaws.{stored-glyph}
use Rattle.dvi_nodes.proofs.stored.is_glyph.Goals as goal

pub returns : goal.returns
returns c =
    λ good.
    rw c.word.ensures (stored-glyph c.args.s.now c.requires c.type_inv.s)
