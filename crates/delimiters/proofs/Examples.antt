-- Worked searches in a small font. An edit of the definition is refused here.
-- Assumes nothing.
use mathlib.Core.Path.{◌≡◌, refl}
use mathlib.Core.Bool.{true, false, ◌&&◌}
use mathlib.Core.List.{List, [], ◌∷◌}
use mathlib.Core.Option.{Option, none, some}
use Prim.Native.Nat.{ℕ}
use lib.Dec.{eqb}
use lib.IntN.{pos}
use Rattle.font.specs.Font.{Metrics, Font}
use Rattle.formula.specs.declared.Pair.{Pair}
use Rattle.formula.specs.declared.Delimiter.{Delimiter}
use Rattle.delimiters.specs.Delimiters.{Sign, chain_by, chain, in_sizes, of_pair, candidates, extent, first_enough, taller, tallest, taken, sign_for}

-- size, family, code; height and depth; successor
sign : ℕ → ℕ → ℕ → ℕ → ℕ → Option ℕ → Sign
sign size family code height depth successor =
    record {
      size = size;
      family = family;
      code = code;
      metrics = record { width = 0; height = height; depth = depth; italic = 0; successor = successor };
    }

-- the symbol of a size, family and code among some
symbol_of : List Sign → ℕ → ℕ → ℕ → Option Metrics
symbol_of [] size family code = none
symbol_of (s ∷ l) size family code =
    elim (eqb s.size size && eqb s.family family && eqb s.code code) [
      | true ↦ some s.metrics
      | false ↦ symbol_of l size family code
    ]

-- the small symbol in three sizes; its successor is absent in scriptscript size
abbrev small2 : Sign
small2 = sign 2 1 10 60 40 (some 11)

abbrev small1 : Sign
small1 = sign 1 1 10 100 100 (some 11)

abbrev next1 : Sign
next1 = sign 1 1 11 100 150 none

abbrev small0 : Sign
small0 = sign 0 1 10 100 200 none

abbrev large1 : Sign
large1 = sign 1 2 20 150 150 none

abbrev zero0 : Sign
zero0 = sign 0 0 0 500 500 none

font : Font
font =
    record {
      parameter = λ size number. 0;
      symbol = symbol_of (small2 ∷ small1 ∷ next1 ∷ small0 ∷ large1 ∷ zero0 ∷ []);
    }

pair : ℕ → ℕ → Pair
pair family code = record { family = family; code = code }

both : Delimiter
both = record { small = pair 1 10; large = pair 2 20 }

-- the small pair is zero
large_only : Delimiter
large_only = record { small = pair 0 0; large = pair 2 20 }

neither : Delimiter
neither = record { small = pair 0 0; large = pair 0 0 }

searched :
    (sign_for font 2 both (pos 100) ≡ some small2)  -- at least
    × (sign_for font 2 both (pos 101) ≡ some small1)  -- an absent successor ends the chain of its size alone
    × (sign_for font 2 both (pos 201) ≡ some next1)  -- a successor before the next size
    × (sign_for font 2 both (pos 251) ≡ some small0)  -- the small symbol in all sizes before the large
    × (sign_for font 2 both (pos 301) ≡ some small0)  -- none suffices: the first of the tallest
    × (sign_for font 0 both (pos 0) ≡ some small0)  -- from the current size
    × (sign_for font 2 large_only (pos 0) ≡ some large1)  -- two zero bytes stand for no symbol
    × (sign_for font 2 neither (pos 0) ≡ none)
unfolding sign symbol_of font pair both large_only neither chain_by chain in_sizes of_pair candidates extent first_enough taller tallest taken sign_for
searched = (refl, refl, refl, refl, refl, refl, refl, refl)
