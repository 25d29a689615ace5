-- `rule_front` meets its contract: bytes that open with push look like a rule, and are one where its bytes lead (`front_by`).
-- Assumes nothing.
use mathlib.Core.Path.{◌∙◌}
use native.Mathlib.Omega.{arith}
use Rattle.dvi.specs.declared.forms.Form.TheVariants.{Body}
use Rattle.dvi.proofs.BodyLaws.{rule_size_lem}
use Rattle.dvi.specs.FrontLaws.{front_by, front_short, looks_body_rule}
use Rattle.dvi_body.proofs.rule_front.Goals as goal

pub returns-then-s-lt-BYTES_IN_RULE : goal.returns-then-s-lt-BYTES_IN_RULE
returns-then-s-lt-BYTES_IN_RULE c =
    let s = c.args.s.now in
    front_short Body s (rw (looks_body_rule s c.requires, rule_size_lem) (omega arith))

pub returns : goal.returns
returns c =
    let s = c.args.s.now in
    c.found.ensures
    ∙ rw (c.number.ensures.0, c.negated.ensures.is, c.number-2.ensures.0, c.number-3.ensures.0, c.number-4.ensures.0)
    (front_by Body s c.is_rule.result (looks_body_rule s c.requires) c.is_rule.ensures)
