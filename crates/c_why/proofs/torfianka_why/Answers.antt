-- What decided the shifts, and the words for both indexes, where there is room for the answer.
-- Assumes nothing.
use Rattle.std.proofs.Common.{◌≤◌, sym, subst, rules}
use Rattle.formula.specs.Format.{formula_limit}
use Rattle.answers.specs.Why.{WhyAnswered}
use Rattle.answers.proofs.Small.{why_small}
use Rattle.c_why.proofs.torfianka_why.Goals as goal

pub report_reasons-requires : goal.report_reasons-requires
report_reasons-requires c = (search rules, subst (λ (e : WhyAnswered). e.place ≤ formula_limit) (sym c.why.ensures.result_value) (why_small _ _ _ _ _ _))
