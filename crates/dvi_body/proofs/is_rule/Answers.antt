-- `is_rule` makes the tests of `body_rule_lem`.
-- Assumes nothing.
use Rattle.dvi.proofs.LeadLaws.{body_rule_lem}
use Rattle.dvi_body.proofs.is_rule.Goals as goal

pub returns : goal.returns
returns c =
    λ good.
    body_rule_lem c.args.s.now c.type_inv.s c.requires
