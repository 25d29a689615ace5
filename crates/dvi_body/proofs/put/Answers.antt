-- `put` meets its contract: each kind of node is written by a function of its own, whose needs a node that can be written meets.
-- Assumes nothing.
use Rattle.dvi.proofs.ProfileLaws.{facts}
use Rattle.dvi.specs.Stores.{glyph_asks}
use Rattle.dvi.proofs.Stores.{rule_asks}
use Rattle.dvi_body.proofs.put.Goals as goal

pub put_glyph-requires : goal.put_glyph-requires
put_glyph-requires c =
    let pre = rw c.in-Glyph.is at c.requires in
    glyph_asks (facts _ pre.0) pre.1

pub put_rule-requires : goal.put_rule-requires
put_rule-requires c =
    let pre = rw c.in-Rule.is at c.requires in
    rule_asks (facts _ pre.0) pre.1

pub returns-in-Glyph : goal.returns-in-Glyph
returns-in-Glyph c = rw c.in-Glyph.is c.put_glyph.ensures

pub returns-in-Rule : goal.returns-in-Rule
returns-in-Rule c = rw c.in-Rule.is c.put_rule.ensures
