-- `is_writable` makes the tests of `glyph_tests` and `rule_tests`; a code is a byte in any case.
-- Assumes nothing.
use native.Mathlib.Omega.{arith}
use Rattle.dvi_nodes.proofs.ItemLaws.{glyph_tests, rule_tests}
use Rattle.dvi_nodes.proofs.is_writable.Goals as goal

pub returns-in-Glyph : goal.returns-in-Glyph
returns-in-Glyph c =
    let g = c.in-Glyph.g in
    rw (c.in-Glyph.is, c.within.ensures, c.within-in-Glyph.ensures) (glyph_tests g.x.0 g.y.0 g.size g.family g.code (omega arith))

pub returns-in-Rule : goal.returns-in-Rule
returns-in-Rule c =
    let r = c.in-Rule.r in
    rw (c.in-Rule.is, c.within-in-Rule.ensures, c.within-in-Rule-2.ensures, c.is_extent.ensures, c.is_extent-in-Rule.ensures)
    (rule_tests r.x.0 r.y.0 r.width.0 r.thickness.0)
