-- `word` meets its contract: four bytes make the word, by `word_at`.
-- Assumes nothing.
use native.Mathlib.Omega.{arith}
use Rattle.words.specs.WordLaws.{word_at}
use Rattle.words.proofs.word.Goals as goal

pub returns : goal.returns
returns c = rw (word_at c.args.at c.args.s.now) (omega arith)
