-- `is_rule` makes the tests of `stored_rule`.
-- Assumes nothing.
use Rattle.dvi.proofs.LeadLaws.{stored_rule}
use Rattle.dvi_nodes.proofs.stored.is_rule.Goals as goal

pub returns : goal.returns
returns c = stored_rule c.args.s.now c.requires c.type_inv.s
