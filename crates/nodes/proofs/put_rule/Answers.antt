-- `put_rule` meets its contract: the words that it writes are those of the rule's width, at least 0, and of its thickness, and the
-- part behind the first nodes is lent to `put_node` (`behind_lent`).
-- Assumes nothing.
use Rattle.nodes.specs.Nodes.{rule}
use Rattle.nodes.specs.Buffer.{put}
use Rattle.nodes.specs.Lent.{behind_lent}
use Rattle.nodes.proofs.Stores.{rule_bytes}
use Rattle.nodes.proofs.put_rule.Goals as goal

pub returns : goal.returns
returns c =
    let args = c.args in
    let node = rule args.x.0 args.y.0 args.width.0 args.thickness.0 in
    let bytes =
    rule_bytes args.x.0 args.y.0 args.width.0 args.thickness.0 c.max-width.ensures.is
    c.word_of.ensures c.word_of-2.ensures in
    behind_lent args.before (put node) args.buf.now _ c.room-at.ensures (rw bytes at c.put_node.ensures)
