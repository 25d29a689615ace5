-- The answer of measuring, and the words for both indexes, where there is room for the answer.
use Rattle.std.proofs.Common.{sym, subst, rules}
use Rattle.answers.specs.Small.{Small}
use Rattle.answers.proofs.Small.{measured_small}
use Rattle.c_set.proofs.torfianka_measure.Goals as goal

pub report-requires : goal.report-requires
report-requires c = (search rules, subst Small (sym c.measure.ensures.result_value) (measured_small _ _ _ _ _))
