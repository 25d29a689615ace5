-- `word_of` meets its contract, by `masked_word`.
-- Assumes nothing.
use borrow.Author.Rules.{rules}
use Rattle.words.specs.WordLaws.{word_below}
use Rattle.words.proofs.Stores.{masked_word}
use Rattle.words.proofs.word_of.Goals as goal

pub overflow_cast-result : goal.overflow_cast-result
overflow_cast-result c =
    let z = c.args.z.0 in
    rw (masked_word z (search rules)) (tt, record { fits = word_below z })

pub returns : goal.returns
returns c =
    let z = c.args.z.0 in
    rw (masked_word z (search rules))
