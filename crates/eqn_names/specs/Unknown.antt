-- The first word of a text that a table has no name for (request 10, refusal 10): how many tokens stand before it.
-- Assumes nothing.
use Rattle.std.specs.Prelude.{Bool, true, false, not, List, [], ◌∷◌, ℕ, suc}
use Rattle.std.proofs.Math.Option.{Option, none, some}
use Rattle.eqn_tokens.specs.Tokens.{Token, word, keyword, opening, closing, other}
use Rattle.eqn_names.specs.Names.{Name, named, is_there}

abbrev pub is_unknown : List Name → Token → Bool
is_unknown ns (word w) = not (is_there (named ns w))
is_unknown ns (keyword k) = false
is_unknown ns opening = false
is_unknown ns closing = false
is_unknown ns (other b) = false

abbrev pub one_more : Option ℕ → Option ℕ
one_more none = none
one_more (some n) = some (suc n)

unfoldable pub first_unknown : List Name → List Token → Option ℕ
first_unknown ns [] = none
first_unknown ns (t ∷ ts) = elim (is_unknown ns t) [ true ↦ some 0 | false ↦ one_more (first_unknown ns ts) ]
