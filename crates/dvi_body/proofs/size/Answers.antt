-- `size` meets its contract: every glyph has 15 bytes, and every rule 21.
-- Assumes nothing.
use mathlib.Core.Path.{sym}
use Rattle.dvi.specs.BodyLaws.{glyph_size}
use Rattle.dvi.proofs.BodyLaws.{rule_size_lem}
use Rattle.dvi_body.proofs.size.Goals as goal

pub returns-in-Glyph : goal.returns-in-Glyph
returns-in-Glyph c =
    let g = c.in-Glyph.field-0 in
    rw c.in-Glyph.is (sym (glyph_size g.x.0 g.y.0 g.size g.family g.code))

pub returns-in-Rule : goal.returns-in-Rule
returns-in-Rule c =
    let r = c.in-Rule.field-0 in
    rw c.in-Rule.is (sym (rule_size_lem r.x.0 r.y.0 r.width.0 r.thickness.0))
