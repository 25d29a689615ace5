-- Laws of four-byte words.
--     word_at                      a word by its four bytes
--     word_take                    the front of a list has the words that end in it
--     signed_small, signed_great   the number that a word stands for, by the test that the code makes
--     word_below, word_sum         the word of a number, and that of a sum; word_signed    of the number that a word stands for
--     four_back, four_rest         a word is read back from its bytes; of a number its word's bytes are kept
--     four_of, four_again          the bytes of a word that was made of four, or read
-- Assumes nothing.
use Rattle.std.specs.Prelude.{◌≡◌, refl, Bool, true, false, List, [], ◌∷◌, ◌++◌, ℕ, suc, ◌+◌, ◌*◌, ◌/◌, ◌%◌, ◌≤◌, ◌<◌, ltb, ℤ, pos, negsuc, ◌+ℤ◌, ◌-ℤ◌, length, get_or, take, drop}
use Rattle.std.proofs.Common.{sym, ap, ◌∙◌, arith, add-zero, Fits, get_or-take, get_or-drop}
use Rattle.std.specs.Int.{w8}
use borrow.Author.Tests.{lt-ltb, le-ltb}
use Rattle.scaled.specs.Length.{pick}
use Rattle.scaled.specs.Signed.{above, below, own, parts_add}
use Rattle.words.specs.Words.{little_endian, word_range, signed_word, word_of, four_bytes}

-- ---- a word, by its bytes

abbrev pub sum_at : List ℕ → ℕ → ℕ
sum_at s at = get_or s at 0 + 256 * (get_or s (at + 1) 0 + 256 * (get_or s (at + 2) 0 + 256 * get_or s (at + 3) 0))

word_front : (s : List ℕ) → little_endian 4 s ≡ sum_at s 0
unfolding little_endian
word_front [] = refl
word_front (a ∷ []) = omega arith
word_front (a ∷ b ∷ []) = omega arith
word_front (a ∷ b ∷ c ∷ []) = omega arith
word_front (a ∷ b ∷ c ∷ d ∷ s) = omega arith

pub word_at : (at : ℕ) (s : List ℕ) → little_endian 4 (drop at s) ≡ sum_at s at
word_at at s = word_front (drop at s) ∙ simp (get_or-drop, add-zero)

pub word_take : (k at : ℕ) (s : List ℕ) → at + 4 ≤ k → little_endian 4 (drop at (take k s)) ≡ little_endian 4 (drop at s)
word_take k at s h =
    let e0 = get_or-take k s at 0 (omega arith) in
    let e1 = get_or-take k s (at + 1) 0 (omega arith) in
    let e2 = get_or-take k s (at + 2) 0 (omega arith) in
    let e3 = get_or-take k s (at + 3) 0 (omega arith) in
    word_at at (take k s) ∙ (cc) ∙ sym (word_at at s)

-- ---- the number that a word stands for

module _ (w : ℕ) where
  pub signed_small : w < word_range / 2 → signed_word w ≡ pos w
  unfolding signed_word pick
  signed_small l = simp (signed_word, lt-ltb w (word_range / 2) l)

  pub signed_great : word_range / 2 ≤ w → signed_word w ≡ pos w -ℤ pos word_range
  unfolding signed_word pick
  signed_great l = simp (signed_word, le-ltb w (word_range / 2) l)

-- ---- the word of a number

pub word_below : (z : ℤ) → word_of z < word_range
unfolding word_of
word_below (pos n) = omega arith
word_below (negsuc n) = omega arith

-- a word is that of the number it stands for
pub word_signed : (w : ℕ) → w < word_range → word_of (signed_word w) ≡ w
unfolding signed_word pick word_of
word_signed w l = go (ltb w (word_range / 2)) refl
  where
    go : (t : Bool) → ltb w (word_range / 2) ≡ t → word_of (pick t (pos w) (pos w -ℤ pos word_range)) ≡ w
    go true e = omega arith
    go false e = rw (lt-ltb w word_range l) (omega arith)

-- a and b differ by a multiple of 2 ^ 32
record Alike (a b : ℕ) : Type 0 where
  p : ℕ
  q : ℕ
  alike : a + word_range * p ≡ b + word_range * q

word_parts : (z : ℤ) → Alike (word_of z + below z) (above z)
unfolding word_of
word_parts (pos n) = record { p = n / word_range; q = 0; alike = omega arith }
word_parts (negsuc n) = record { p = 0; q = suc (n / word_range); alike = omega arith }

rest_is : {a b : ℕ} → Alike a b → b < word_range → a % word_range ≡ b
rest_is e l = omega arith

pub word_sum : (x d : ℤ) → (word_of x + word_of d) % word_range ≡ word_of (x +ℤ d)
word_sum x d =
    let u = word_parts x in
    let v = word_parts d in
    let s = word_parts (x +ℤ d) in
    let together : Alike (word_of x + word_of d) (word_of (x +ℤ d)) =
    record { p = u.p + v.p + s.q; q = u.q + v.q + s.p; alike = omega (arith, parts_add (own x) (own d)) } in
    rest_is together (word_below (x +ℤ d))

-- ---- a word's bytes

four : (x q₁ q₂ q₃ q₄ r₀ r₁ r₂ r₃ : ℕ) → x ≡ 256 * q₁ + r₀ → q₁ ≡ 256 * q₂ + r₁ → q₂ ≡ 256 * q₃ + r₂ → q₃ ≡ 256 * q₄ + r₃ →
    r₀ + 256 * (r₁ + 256 * (r₂ + 256 * (r₃ + 256 * 0))) + word_range * q₄ ≡ x
four x q₁ q₂ q₃ q₄ r₀ r₁ r₂ r₃ a b c d = omega arith

digit_1 : (x : ℕ) → x / 256 ≡ 256 * (x / 65_536) + x / 256 % 256
digit_1 x = omega arith

digit_2 : (x : ℕ) → x / 65_536 ≡ 256 * (x / 16_777_216) + x / 65_536 % 256
digit_2 x = omega arith

digit_3 : (x : ℕ) → x / 16_777_216 ≡ 256 * (x / word_range) + x / 16_777_216 % 256
digit_3 x = omega arith

low_four : (x : ℕ) (s : List ℕ) → little_endian 4 (four_bytes x ++ s) + word_range * (x / word_range) ≡ x
unfolding little_endian four_bytes
low_four x s =
    four x (x / 256) (x / 65_536) (x / 16_777_216) (x / word_range) _ _ _ _ (omega arith) (digit_1 x) (digit_2 x) (digit_3 x)

pub four_back : (x : ℕ) (s : List ℕ) → x < word_range → little_endian 4 (four_bytes x ++ s) ≡ x
four_back x s l = omega (arith, low_four x s)

same_bytes : (x y : ℕ) → y ≡ x % word_range →
    (y % 256 ≡ x % 256) × (y / 256 % 256 ≡ x / 256 % 256) × (y / 65_536 % 256 ≡ x / 65_536 % 256)
    × (y / 16_777_216 % 256 ≡ x / 16_777_216 % 256)
same_bytes x y e = (omega arith, omega arith, omega arith, omega arith)

pub four_rest : (x : ℕ) → four_bytes (x % word_range) ≡ four_bytes x
unfolding four_bytes
four_rest x = let e = same_bytes x (x % word_range) refl in cc

pub four_of : {x y z w : ℕ} → Fits w8 x → Fits w8 y → Fits w8 z → Fits w8 w →
    four_bytes (x + 256 * (y + 256 * (z + 256 * w))) ≡ x ∷ y ∷ z ∷ w ∷ []
unfolding four_bytes
four_of {x} {y} {z} {w} x-low y-low z-low w-low =
    let n = x + 256 * (y + 256 * (z + 256 * w)) in
    let from-y : n / 256 ≡ y + 256 * (z + 256 * w) = omega arith in
    let from-z : n / 65_536 ≡ z + 256 * w = omega arith in
    let from-w : n / 16_777_216 ≡ w = omega arith in
    let a : n % 256 ≡ x = omega arith in
    let b : n / 256 % 256 ≡ y = rw from-y (omega arith) in
    let c : n / 65_536 % 256 ≡ z = rw from-z (omega arith) in
    let d : n / 16_777_216 % 256 ≡ w = rw from-w (omega arith) in
    rw (a, b, c, d)

-- a list of bytes
abbrev pub Bytes : List ℕ → Type 0
Bytes s = (i : ℕ) → Fits w8 (get_or s i 0)

pub four_again : (s : List ℕ) → 4 ≤ length s → Bytes s → four_bytes (little_endian 4 s) ≡ take 4 s
four_again [] l byte = absurd (omega arith)
four_again (x ∷ []) l byte = absurd (omega arith)
four_again (x ∷ y ∷ []) l byte = absurd (omega arith)
four_again (x ∷ y ∷ z ∷ []) l byte = absurd (omega arith)
four_again (x ∷ y ∷ z ∷ w ∷ s) l byte =
    ap four_bytes (word_front (x ∷ y ∷ z ∷ w ∷ s)) ∙ four_of (byte 0) (byte 1) (byte 2) (byte 3)
