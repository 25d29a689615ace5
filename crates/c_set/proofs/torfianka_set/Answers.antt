-- The answer of setting, the buffer, and the words for both indexes, where there is room for the answer.
use Rattle.std.proofs.Common.{sym, subst, rules}
use Rattle.answers.specs.Small.{Small}
use Rattle.answers.proofs.Small.{setting_small}
use Rattle.c_set.proofs.torfianka_set.Goals as goal

pub report-requires : goal.report-requires
report-requires c = (search rules, subst Small (sym c.set.ensures.result_value) (setting_small _ _ _ _ _ _))
