-- `number` meets its contract.
-- Assumes nothing.
use mathlib.Core.Path.{ap, ◌∙◌}
use Rattle.words.specs.Words.{signed_word}
use Rattle.dvi_nodes.proofs.stored.number.Goals as goal

pub returns : goal.returns
returns c = c.signed.ensures ∙ ap signed_word c.word.ensures
