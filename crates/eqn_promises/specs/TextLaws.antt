-- The text that some tokens are written as has these tokens, if the writer makes them.
--     written_stands    such a token can stand in a text
--     tokens_of_text    the tokens of the text
-- A space stands before each token but the first, so that no word goes on behind it.
-- Assumes nothing.
use Rattle.std.specs.Prelude.{◌≡◌, false, List, [], ◌∷◌, ◌++◌}
use Rattle.std.proofs.Math.Path.{refl}
use Rattle.std.proofs.Common.{ap, ◌∙◌}
use Rattle.eqn_tokens.specs.Tokens.{Token, word, keyword, opening, closing, other, token_bytes, tokens_from, tokens_in}
use Rattle.eqn_tokens.specs.TokensLaws.{begins_word, tokens_separator}
use Rattle.eqn_names.specs.Names.{Name}
use Rattle.eqn_names.proofs.NamesLaws.{named_is}
use Rattle.eqn_promises.specs.WrittenLaws.{CanStand, token_then_lem, tabled_stands}
use Rattle.eqn_meaning.specs.Writing.{spaced, text_of}
use Rattle.eqn_promises.specs.Known.{All, all_nil, all_cons, GoodNames, Written}

spaced_apart : (ts : List Token) → begins_word (spaced ts) ≡ false
unfolding spaced
spaced_apart [] = refl
spaced_apart (t ∷ ts) = refl

module _ (ns : List Name) (good : GoodNames ns) where
  written_stands : (t : Token) → Written ns t → CanStand t
  written_stands (word w) h =
      let is = named_is ns w h.1 in
      rw (← is.is) (tabled_stands (good h.0 is.member))
  written_stands (keyword k) h = tt
  written_stands opening h = tt
  written_stands closing h = tt
  written_stands (other b) h = absurd h

  -- a token before others, each behind a space
  before_spaced : (t : Token) (ts : List Token) → Written ns t → tokens_in (spaced ts) ≡ ts → tokens_in (token_bytes t ++ spaced ts) ≡ t ∷ ts
  before_spaced t ts h e = token_then_lem t (spaced ts) (written_stands t h) (spaced_apart ts) ∙ ap (λ (us : List Token). t ∷ us) e

  tokens_spaced : {ts : List Token} → All (Written ns) ts → tokens_in (spaced ts) ≡ ts
  unfolding spaced tokens_from
  tokens_spaced all_nil = refl
  tokens_spaced (all_cons {t} {ts} p h) = tokens_separator 32 (token_bytes t ++ spaced ts) refl ∙ before_spaced t ts p (tokens_spaced h)

  pub tokens_of_text : {ts : List Token} → All (Written ns) ts → tokens_in (text_of ts) ≡ ts
  unfolding text_of tokens_from
  tokens_of_text all_nil = refl
  tokens_of_text (all_cons {t} {ts} p h) = before_spaced t ts p (tokens_spaced h)
