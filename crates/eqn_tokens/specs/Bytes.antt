-- The bytes of typed text (request 10): those that only separate, braces, and those that words are made of.
-- Assumes nothing.
use Rattle.std.specs.Prelude.{Bool, true, false, not, ◌&&◌, ◌||◌, List, [], ◌∷◌, ℕ, leb, eqb}

-- tab, line feed, space
abbrev pub is_separator : ℕ → Bool
is_separator b = eqb b 9 || eqb b 10 || eqb b 32

abbrev pub opening_brace : ℕ
opening_brace = 123

abbrev pub closing_brace : ℕ
closing_brace = 125

abbrev pub is_word_byte : ℕ → Bool
is_word_byte b = leb 33 b && leb b 126 && not (eqb b opening_brace || eqb b closing_brace)

unfoldable pub all_word_bytes : List ℕ → Bool
all_word_bytes [] = true
all_word_bytes (b ∷ s) = is_word_byte b && all_word_bytes s

-- whether two runs of bytes are the same
unfoldable pub same : List ℕ → List ℕ → Bool
same [] [] = true
same [] (b ∷ t) = false
same (a ∷ s) [] = false
same (a ∷ s) (b ∷ t) = eqb a b && same s t
