-- A worked index (request 9), and what it says.
-- Assumes nothing.
use mathlib.Core.Path.{◌≡◌, refl}
use mathlib.Core.Bool.{true, false}
use mathlib.Core.List.{List, [], ◌∷◌}
use Prim.Native.Nat.{ℕ}
use lib.Count.{ones, ones_in}
use lib.ListN.{replicate}
use Rattle.font.specs.Font.{is_of}
use Rattle.font_index.specs.Index.{has, bits, tally, earlier, each, index_of, group_word, ones_before, present_by, number_by}

-- a CH record with no successor, all of whose words are 0
symbol : ℕ → ℕ → ℕ → List ℕ
symbol size family code = 67 ∷ 72 ∷ size ∷ family ∷ code ∷ replicate 18 0

-- codes 1, 65 and 66 of text size and family 0, and code 3 of script size and family 2: the bits of the first family and its start, the starts of
-- the next one, which has no record, of the last record's and of the last of all
some_index : List ℕ
some_index = index_of (symbol 0 0 1 ∷ symbol 0 0 65 ∷ symbol 0 0 66 ∷ symbol 1 2 3 ∷ [])

index-words :
    (group_word some_index 0 0 0 ≡ 2)
    × (group_word some_index 0 0 1 ≡ 6)
    × (group_word some_index 0 0 4 ≡ 0)
    × (group_word some_index 0 1 4 ≡ 3)
    × (group_word some_index 1 2 0 ≡ 8)
    × (group_word some_index 1 2 4 ≡ 3)
    × (group_word some_index 2 15 4 ≡ 4)
unfolding some_index symbol is_of has bits tally earlier each index_of
index-words = (refl, refl, refl, refl, refl, refl, refl)

-- code 66 has a record with two before it, code 64 has none
index-asked :
    (present_by some_index 0 0 66 ≡ true)
    × (number_by some_index 0 0 66 ≡ 2)
    × (present_by some_index 0 0 64 ≡ false)
    × (present_by some_index 1 2 3 ≡ true)
    × (number_by some_index 1 2 3 ≡ 3)
unfolding some_index symbol is_of has bits tally earlier each index_of ones ones_in ones_before present_by number_by
index-asked = (refl, refl, refl, refl, refl)
