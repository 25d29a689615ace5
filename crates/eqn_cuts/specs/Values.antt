-- What the code's values stand for, and what its functions promise.
--     kind_token                a token of a kind
--     SplitAt                  a text is cut at the last of a keyword outside braces, whose bytes stand there (`StandsAt`)
--     ExpressionEnds, LastStarts     where the first expression ends, with a token (`EndsToken`) or with the text, and the last token starts
-- Assumes nothing.
use Rattle.std.specs.Prelude.{◌≡◌, ◌⊎◌, List, [], ◌∷◌, ◌++◌, ℕ, ◌-◌, ◌≤◌, ◌<◌, length, take, drop}
use Rattle.std.proofs.Math.Option.{none, some}
use Rattle.eqn_tokens.specs.Tokens.{Token, keyword_bytes, tokens_in, place_in}
use Rattle.eqn_tokens.specs.declared.tokens.TokenKind.{TokenKind}
use Rattle.eqn_tokens.specs.declared.tokens.Token as code
use Rattle.eqn_tokens.specs.Values.{kind_as, TokenAt}
use Rattle.eqn_grammar.specs.Splits.{last_outside, first_expression}
use Rattle.eqn_cuts.specs.declared.Split.{Split}
use Rattle.eqn_tokens.specs.declared.tokens.Keyword.{Keyword}

abbrev pub kind_token : TokenKind → Token
kind_token kind = kind_as kind []

-- the place of a token, and a keyword's bytes from there on
pub record StandsAt (s : List ℕ) (j : Keyword) (start end : ℕ) : Type 0 where
  pub first : start ≡ place_in (length (tokens_in (take start s))) s
  pub bytes : take (end - start) (drop start s) ≡ keyword_bytes j

pub record Cut (s : List ℕ) (j : Keyword) (r : Split) : Type 0 where
  pub there : r.start < length s
  pub stands : StandsAt s j r.start r.end
  pub parts : last_outside j (tokens_in s) ≡ some (tokens_in (take r.start s), tokens_in (drop r.end s))

pub record Uncut (s : List ℕ) (j : Keyword) (r : Split) : Type 0 where
  pub nowhere : r.start ≡ length s
  pub none_is : last_outside j (tokens_in s) ≡ none

pub record SplitAt (s : List ℕ) (j : Keyword) (r : Split) : Type 0 where
  pub ordered : r.start ≤ r.end
  pub within : r.end ≤ length s
  pub split : Cut s j r ⊎ Uncut s j r

-- the place behind a token's last byte
pub record EndsToken (s : List ℕ) (r : ℕ) : Type 0 where
  pub at : ℕ
  pub token : code.Token
  pub is : TokenAt s at token
  pub some : token.start < token.end
  pub ends : token.end ≡ r

pub record ExpressionEnds (s : List ℕ) (from r : ℕ) : Type 0 where
  pub behind : from ≤ r
  pub within : r ≤ length s
  pub onward : (t : Token) (ts : List Token) → tokens_in (drop from s) ≡ t ∷ ts → from < r
  pub parts : first_expression (tokens_in (drop from s)) ≡ (tokens_in (take (r - from) (drop from s)), tokens_in (drop r s))
  pub all : tokens_in (drop r s) ≡ [] → r ≡ length s
  pub tight : (t : Token) (ts : List Token) → tokens_in (drop r s) ≡ t ∷ ts → EndsToken s r

pub record LastStarts (s : List ℕ) (r : ℕ) : Type 0 where
  pub within : r ≤ length s
  pub before : (t : Token) (ts : List Token) → tokens_in s ≡ ts ++ (t ∷ []) → tokens_in (take r s) ≡ ts
  pub first : (t : Token) (ts : List Token) → tokens_in s ≡ t ∷ ts → r ≡ place_in (length (tokens_in (take r s))) s
  pub none_is : tokens_in s ≡ [] → r ≡ 0
