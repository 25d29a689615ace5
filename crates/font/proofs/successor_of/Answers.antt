-- `successor_of` goes by the flag.
use mathlib.Core.Path.{sym}
use Rattle.font.specs.MetricsLaws.{successor_some, successor_none}
use Rattle.font.proofs.successor_of.Goals as goal

pub returns-then-r-eq1 : goal.returns-then-r-eq1
returns-then-r-eq1 c = sym (successor_some _ c.if-r-eq1.true)

pub returns-else-r-eq1 : goal.returns-else-r-eq1
returns-else-r-eq1 c = sym (successor_none _ c.if-r-eq1.false)
