-- `is_glyph` makes the tests of `body_glyph_lem`.
-- Assumes nothing.
use Rattle.dvi.specs.LeadLaws.{body_glyph_lem}
use Rattle.dvi_body.proofs.is_glyph.Goals as goal

pub returns : goal.returns
returns c =
    λ good.
    body_glyph_lem c.args.s.now c.type_inv.s c.requires.0 c.requires.1
