-- `metrics_of` reads the four words one after the other, as `words` does.
use Rattle.font.specs.MetricsLaws.{metrics_of_lem}
use Rattle.font.proofs.metrics_of.Goals as goal

pub returns : goal.returns
returns c = metrics_of_lem _ _ _ _ _ _ c.word.ensures c.word-2.ensures c.word-3.ensures c.word-4.ensures c.successor_of.ensures
