-- Numbers as decimal text, in ASCII.
--     decimal_of     the digits of a number of 64 bits
--     text_of        a signed number: a negative one has a minus
-- Assumes nothing.
use Rattle.std.specs.Prelude.{ℕ, zero, suc, ◌+◌, ◌/◌, ◌%◌, cond, List, [], ◌∷◌, ◌++◌, ltb, ℤ, pos, negsuc}

-- the digits of n, the most significant first, of which there are at most f
unfoldable pub digits_by : ℕ → ℕ → List ℕ
digits_by zero n = []
digits_by (suc f) n = cond (ltb n 10) ((48 + n) ∷ []) (digits_by f (n / 10) ++ ((48 + n % 10) ∷ []))

-- a number of 64 bits has at most this many
abbrev pub most_digits : ℕ
most_digits = 20

unfoldable pub decimal_of : ℕ → List ℕ
decimal_of n = digits_by most_digits n

abbrev pub minus : ℕ
minus = 45

-- `negsuc n` is -1 less n
abbrev pub text_of : ℤ → List ℕ
text_of (pos n) = decimal_of n
text_of (negsuc n) = minus ∷ decimal_of (suc n)
