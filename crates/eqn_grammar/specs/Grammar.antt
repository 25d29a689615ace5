-- The grammar of typed text (request 10): derivations by its levels, and the tokens that each derives.
--     Row         expressions side by side, in a text or in braces; there may be none
--     Limited     an expression, and behind `from` and `to` its limits
--     Overs       fractions, which group to the left
--     Scripted    a word or a group, and behind `sub` and `sup` its scripts
--     Primary     a word, or a row in braces
--     Viable ts   the tokens begin some text of the grammar
-- Assumes nothing.
use Rattle.std.specs.Prelude.{◌≡◌, List, [], ◌∷◌, ◌++◌, ℕ}
use Rattle.eqn_tokens.specs.Tokens.{Token, word, keyword, opening, closing}
use Rattle.eqn_tokens.specs.declared.tokens.Keyword.{Keyword}
use Rattle.eqn_tokens.specs.declared.tokens.Keyword.TheVariants.{Sub, Sup, Over, From, To}

mutual
  pub data Row : Type 0 where
    nil : Row
    beside : Limited → Row → Row

  -- what stands behind `from`, and behind `to`
  pub data Limited : Type 0 where
    limited : Overs → NoOvers → NoOvers → Limited

  pub data NoOvers : Type 0 where
    no_overs : NoOvers
    some_overs : Overs → NoOvers

  pub data Overs : Type 0 where
    single : Scripted → Overs
    fraction : Overs → Scripted → Overs

  -- what stands behind `sub`, and behind `sup`
  pub data Scripted : Type 0 where
    scripted : Primary → NoPrimary → NoPrimary → Scripted

  pub data NoPrimary : Type 0 where
    no_primary : NoPrimary
    some_primary : Primary → NoPrimary

  pub data Primary : Type 0 where
    named : List ℕ → Primary
    braced : Row → Primary

unfoldable mutual
  pub row_tokens : Row → List Token
  row_tokens nil = []
  row_tokens (beside l r) = limited_tokens l ++ row_tokens r

  pub limited_tokens : Limited → List Token
  limited_tokens (limited o f t) = overs_tokens o ++ (limit_tokens From f ++ limit_tokens To t)

  -- a keyword and what stands behind it
  pub limit_tokens : Keyword → NoOvers → List Token
  limit_tokens k no_overs = []
  limit_tokens k (some_overs o) = keyword k ∷ overs_tokens o

  pub overs_tokens : Overs → List Token
  overs_tokens (single s) = scripted_tokens s
  overs_tokens (fraction o s) = overs_tokens o ++ keyword Over ∷ scripted_tokens s

  pub scripted_tokens : Scripted → List Token
  scripted_tokens (scripted p b q) = primary_tokens p ++ (script_tokens Sub b ++ script_tokens Sup q)

  pub script_tokens : Keyword → NoPrimary → List Token
  script_tokens k no_primary = []
  script_tokens k (some_primary p) = keyword k ∷ primary_tokens p

  pub primary_tokens : Primary → List Token
  primary_tokens (named w) = word w ∷ []
  primary_tokens (braced r) = opening ∷ (row_tokens r ++ closing ∷ [])

pub record Viable (ts : List Token) : Type 0 where
  pub row : Row
  pub rest : List Token
  pub begins : row_tokens row ≡ ts ++ rest
