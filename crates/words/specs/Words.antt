-- Numbers as bytes, the least significant byte first (document 01, "Bytes of a formula" and "Nodes").
--     little_endian n s    the number of the first n bytes of s
--     signed_word n        the number whose four-byte two's complement is n
--     word_of z            the four-byte two's complement of z
--     four_bytes n         n as four bytes
-- Assumes nothing.
use Rattle.std.specs.Prelude.{List, [], ◌∷◌, ℕ, zero, suc, ◌+◌, ◌-◌, ◌*◌, ◌/◌, ◌%◌, ltb, ℤ, pos, negsuc, ◌-ℤ◌}
use Rattle.scaled.specs.Length.{pick}

unfoldable pub little_endian : ℕ → List ℕ → ℕ
little_endian zero s = 0
little_endian (suc n) [] = 0
little_endian (suc n) (b ∷ s) = b + 256 * little_endian n s

-- four bytes hold the numbers below this one
abbrev pub word_range : ℕ
word_range = 4_294_967_296

unfoldable pub signed_word : ℕ → ℤ
unfolding pick
signed_word n = pick (ltb n (word_range / 2)) (pos n) (pos n -ℤ pos word_range)

unfoldable pub word_of : ℤ → ℕ
word_of (pos n) = n % word_range
word_of (negsuc n) = word_range - suc (n % word_range)

unfoldable pub four_bytes : ℕ → List ℕ
four_bytes n = n % 256 ∷ n / 256 % 256 ∷ n / 65_536 % 256 ∷ n / 16_777_216 % 256 ∷ []
