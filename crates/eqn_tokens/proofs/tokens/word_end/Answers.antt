-- `word_end` meets its contract: the bytes up to there are of the word (`run_is`).
-- Assumes nothing.
use Rattle.std.proofs.Common.{sym}
use Rattle.eqn_tokens.specs.TokensLaws.{run_is}
use Rattle.eqn_tokens.proofs.tokens.word_end.Goals as goal

pub returns : goal.returns
returns c =
    let found = c.behind.ensures in
    run_is c.args.s.now c.behind.result found.range.1 (λ l. sym (found.last l)) c.args.at found.range.0 (λ k l m. sym (found.all k l m))
