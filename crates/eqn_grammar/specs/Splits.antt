-- How the tokens of a derivation are taken apart by scanning, for code that cuts a text into slices.
--     level_after n t         how many braces are open behind a token, of those that are open before it
--     last_outside j ts       the tokens before the last of some keyword that stands in no braces, and those behind it
--     first_expression ts     the tokens of a row's first expression, and those of the others: a word or an opening brace begins
--                            another expression where an operand has just ended, outside braces
-- That these are the parts of a derivation is shown in `SplitLaws`.
-- Assumes nothing.
use Rattle.std.specs.Prelude.{Bool, true, false, ◌&&◌, List, [], ◌∷◌, ℕ, zero, suc, eqb}
use Rattle.std.proofs.Math.Option.{Option, none, some}
use Rattle.eqn_tokens.specs.Tokens.{Token, word, keyword, opening, closing, other}
use Rattle.eqn_tokens.specs.declared.tokens.Keyword.{Keyword}
use Rattle.eqn_tokens.specs.declared.tokens.Keyword.TheVariants.{Sub, Sup, Over, From, To}

-- ---- one token

abbrev pub one_less : ℕ → ℕ
one_less zero = zero
one_less (suc n) = n

abbrev pub level_after : ℕ → Token → ℕ
level_after n (word w) = n
level_after n (keyword k) = n
level_after n opening = suc n
level_after n closing = one_less n
level_after n (other b) = n

-- keywords are told apart by a number
abbrev pub keyword_number : Keyword → ℕ
keyword_number Sub = 0
keyword_number Sup = 1
keyword_number Over = 2
keyword_number From = 3
keyword_number To = 4

abbrev pub is_this_keyword : Keyword → Token → Bool
is_this_keyword j (word w) = false
is_this_keyword j (keyword k) = eqb (keyword_number k) (keyword_number j)
is_this_keyword j opening = false
is_this_keyword j closing = false
is_this_keyword j (other b) = false

abbrev pub begins_operand : Token → Bool
begins_operand (word w) = true
begins_operand (keyword k) = false
begins_operand opening = true
begins_operand closing = false
begins_operand (other b) = false

abbrev pub ends_operand : Token → Bool
ends_operand (word w) = true
ends_operand (keyword k) = false
ends_operand opening = false
ends_operand closing = true
ends_operand (other b) = false

-- ---- the last keyword

-- one token more in front: a keyword that is split at, if none behind it is
abbrev pub with_front : Bool → Token → List Token → Option (List Token × List Token) → Option (List Token × List Token)
with_front here t ts (some p) = some (t ∷ p.0, p.1)
with_front true t ts none = some ([], ts)
with_front false t ts none = none

unfoldable pub last_from : Keyword → ℕ → List Token → Option (List Token × List Token)
last_from j n [] = none
last_from j n (t ∷ ts) = with_front (eqb n 0 && is_this_keyword j t) t ts (last_from j (level_after n t) ts)

abbrev pub last_outside : Keyword → List Token → Option (List Token × List Token)
last_outside j ts = last_from j 0 ts

-- ---- the first expression

-- behind a token, whether an operand has ended with it, outside braces
abbrev pub ended_after : ℕ → Token → Bool
ended_after n t = eqb (level_after n t) 0 && ends_operand t

unfoldable pub first_from : ℕ → Bool → List Token → List Token × List Token
first_from n ended [] = ([], [])
first_from n ended (t ∷ ts) =
    elim (ended && begins_operand t) [
      | true ↦ ([], t ∷ ts)
      | false ↦ let rest = first_from (level_after n t) (ended_after n t) ts in (t ∷ rest.0, rest.1)
    ]

abbrev pub first_expression : List Token → List Token × List Token
first_expression ts = first_from 0 false ts
