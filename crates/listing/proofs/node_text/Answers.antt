-- By the node's first byte.
use Rattle.std.proofs.Common.{sym, ap}
use Rattle.nodes.specs.Stored.{glyph_in_lem, rule_in_lem}
use Rattle.listing.specs.Texts.{node_text}
use Rattle.texts.specs.PutLaws.{written_as}
use Rattle.listing.proofs.node_text.Goals as goal

pub returns-then-node-eq71 : goal.returns-then-node-eq71
returns-then-node-eq71 c =
    written_as (ap node_text (sym (glyph_in_lem c.args.node.now c.if-node-eq71.true))) c.glyph_text.ensures

pub returns : goal.returns
returns c = written_as (ap node_text (sym (rule_in_lem c.args.node.now c.if-node-eq71.false))) c.rule_text.ensures
