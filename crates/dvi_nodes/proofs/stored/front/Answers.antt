-- `front` meets its contract: the first byte tells what the bytes look like, and that node is found where its bytes lead (`front_by`).
-- Assumes nothing.
use mathlib.Core.Path.{◌∙◌}
use native.Mathlib.Omega.{arith}
use Rattle.nodes.specs.Stored.{glyph_in_lem, rule_in_lem}
use Rattle.nodes.specs.NodeLaws.{length_node_bytes}
use Rattle.dvi.specs.declared.forms.Form.TheVariants.{Stored}
use Rattle.dvi.specs.Forms.{looks_like}
use Rattle.dvi.specs.FrontLaws.{front_by, front_short}
use Rattle.dvi_nodes.proofs.stored.front.Goals as goal

pub returns-then-s-lt-BYTES_IN_NODE : goal.returns-then-s-lt-BYTES_IN_NODE
returns-then-s-lt-BYTES_IN_NODE c =
    let s = c.args.s.now in
    front_short Stored s (omega (arith, length_node_bytes (looks_like Stored s)))

pub returns-then-s-eq71 : goal.returns-then-s-eq71
unfolding looks_like
returns-then-s-eq71 c =
    let s = c.args.s.now in
    c.found.ensures
    ∙ rw (c.number-x.ensures, c.number-y.ensures) (front_by Stored s c.is_glyph.result (glyph_in_lem s c.if-s-eq71.true) c.is_glyph.ensures)

pub returns : goal.returns
unfolding looks_like
returns c =
    let s = c.args.s.now in
    c.found-2.ensures
    ∙ rw (c.number-x.ensures, c.number-y.ensures, c.number.ensures, c.number-2.ensures)
    (front_by Stored s c.is_rule.result (rule_in_lem s c.if-s-eq71.false) c.is_rule.ensures)
