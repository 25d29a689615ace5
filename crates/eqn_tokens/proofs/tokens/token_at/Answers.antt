-- `token_at` meets its contract: the token is the one that the text begins with behind the separators.
-- Assumes nothing.
use mathlib.Core.Path.{◌≡◌, refl, sym, ◌∙◌}
use mathlib.Core.List.{[]}
use Prim.Native.Nat.{◌-◌, ◌<◌}
use native.Mathlib.Omega.{arith}
use lib.ListN.{length, take, drop, length-drop}
use Rattle.eqn_tokens.specs.BytesLaws.{here}
use Rattle.eqn_tokens.specs.Tokens.{run_length}
use Rattle.eqn_tokens.specs.TokensLaws.{run_most, word_at, mark_at}
use Rattle.eqn_tokens.specs.PlacesLaws.{keyword_then, keyword_spelled, mark_spelled, token_made, token_ended}
use Rattle.eqn_tokens.proofs.tokens.token_at.Goals as goal

pub returns-then-start-s : goal.returns-then-start-s
returns-then-start-s c = token_ended c.behind_separators-start.ensures c.if-start-s.true

pub slice_bounds-word_kind-end : goal.slice_bounds-word_kind-end
slice_bounds-word_kind-end c =
    let s = c.args.s.now in
    let at = c.behind_separators-start.result in
    omega (arith, c.word_end-end.ensures, run_most (drop at s), length-drop at s, c.behind_separators-start.ensures.within)

pub returns-then-is_word_byte : goal.returns-then-is_word_byte
returns-then-is_word_byte c =
    let s = c.args.s.now in
    let r = c.behind_separators-start.result in
    let begins = word_at s r (omega arith) (sym c.is_word_byte.ensures ∙ c.if-is_word_byte.true) in
    let long : c.word_end-end.result - r ≡ run_length (drop r s) = omega (arith, c.word_end-end.ensures) in
    let w = take (run_length (drop r s)) (drop r s) in
    let kind = c.word_kind.result in
    let is = rw long at c.word_kind.ensures in
    token_made c.behind_separators-start.ensures kind begins c.word_end-end.ensures (keyword_then kind w is) (keyword_spelled kind w is)

pub returns : goal.returns
returns c =
    let s = c.args.s.now in
    let r = c.behind_separators-start.result in
    let separators = c.behind_separators-start.ensures in
    let inside : r < length s = omega arith in
    let begins = mark_at s r inside (separators.last inside) (sym c.is_word_byte.ensures ∙ c.if-is_word_byte.false) in
    token_made separators c.mark.result begins refl (λ ts. rw (here s r inside) (c.mark.ensures [] ts))
    (rw (here s r inside) (mark_spelled _ c.mark.result c.mark.ensures))
