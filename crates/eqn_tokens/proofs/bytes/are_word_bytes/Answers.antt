-- `are_word_bytes` meets its contract: the closure is the test of a byte.
-- Assumes nothing.
use Rattle.std.proofs.Common.{◌∙◌}
use Rattle.std.proofs.lemmas.Iterator.{YieldsList-from_slice}
use Rattle.std.proofs.lemmas.Iterator.Search.{all_from_yields_List}
use borrow.Author.Rules.{rules}
use Rattle.eqn_tokens.specs.Bytes.{is_word_byte}
use Rattle.eqn_tokens.specs.BytesLaws.{all_list}
use Rattle.eqn_tokens.proofs.bytes.are_word_bytes.Goals as goal

pub returns : goal.returns
returns c =
    let s = c.args.s.now in
    all_from_yields_List is_word_byte _ _ _ c.all.ensures.ran (YieldsList-from_slice s cc) (λ x b q k. search rules) ∙ all_list s
