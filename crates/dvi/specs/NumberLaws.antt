-- A number's four bytes are read back as the number, and four bytes that are read as a number are its bytes; in either order.
--     signed_within                how far the number of a word lies from zero
--     stored_back, stored_again    the least significant byte first
--     turned_bytes, turned_read    a word whose bytes were turned round
--     big_back, big_again          the most significant byte first
-- Assumes nothing.
use Rattle.std.specs.Prelude.{◌≡◌, refl, Bool, true, false, List, [], ◌∷◌, ◌++◌, reverse, ℕ, zero, suc, ◌-◌, ◌/◌, ◌%◌, ◌≤◌, ◌<◌, ltb, ℤ, pos, negsuc, ◌-ℤ◌, length, take}
use Rattle.std.proofs.Common.{ap, ◌∙◌, append-nil, arith, ltb-true, ltb-false}
use Rattle.std.proofs.lemmas.List.{reverse-reverse}
use Rattle.scaled.specs.Signed.{Within}
use Rattle.scaled.specs.Linear.{#, ◌⊖◌}
use Rattle.scaled.proofs.Linear.{eq_by}
use Rattle.words.specs.Words.{little_endian, word_range, signed_word, word_of, four_bytes}
use Rattle.words.specs.WordLaws.{Bytes, word_below, signed_small, signed_great, four_back, four_again}
use Rattle.nodes.specs.Nodes.{signed_bytes}
use Rattle.nodes.specs.Bounds.{greatest_length}
use Rattle.dvi.specs.Commands.{big_endian, turned_word}

-- ---- the number of a word

module _ (w : ℕ) where
  -- below the half of the range a word is its number, and else 2 ^ 32 more
  by_half : {A : Type 0} → (w < word_range / 2 → A) → (word_range / 2 ≤ w → A) → A
  by_half {A} small great = go (ltb w (word_range / 2)) refl
    where
      go : (t : Bool) → ltb w (word_range / 2) ≡ t → A
      go true e = small (ltb-true w (word_range / 2) e)
      go false e = great (ltb-false w (word_range / 2) e)

  great_is : w < word_range → signed_word w ≡ pos w -ℤ pos word_range → signed_word w ≡ negsuc (word_range - suc w)
  great_is l e = e ∙ eq_by (# (pos w) ⊖ # (pos word_range)) (# (negsuc (word_range - suc w))) (omega arith)

  pub word_again : w < word_range → word_of (signed_word w) ≡ w
  unfolding word_of
  word_again l =
      by_half (λ small. rw (signed_small w small) (omega arith))
      (λ great. rw (great_is l (signed_great w great)) (omega arith))

  pub signed_within : w < word_range → Within word_range (signed_word w)
  signed_within l =
      by_half (λ small. rw (signed_small w small) (omega arith))
      (λ great. rw (great_is l (signed_great w great)) (omega arith))

pub signed_back : (z : ℤ) → Within greatest_length z → signed_word (word_of z) ≡ z
unfolding word_of
signed_back (pos n) l =
    let w : n % word_range ≡ n = omega arith in
    rw w (signed_small n (omega arith))
signed_back (negsuc n) l =
    let w = word_range - suc (n % word_range) in
    signed_great w (omega arith) ∙ eq_by (# (pos w) ⊖ # (pos word_range)) (# (negsuc n)) (omega arith)

-- ---- the least significant byte first

pub stored_back : (z : ℤ) (r : List ℕ) → Within greatest_length z → signed_word (little_endian 4 (signed_bytes z ++ r)) ≡ z
unfolding signed_bytes
stored_back z r l = rw (four_back (word_of z) r (word_below z)) (signed_back z l)

-- a word is below its range
pub word_range_lem : (s : List ℕ) → Bytes s → little_endian 4 s < word_range
unfolding little_endian
word_range_lem [] byte = omega arith
word_range_lem (a ∷ []) byte = omega (arith, byte 0)
word_range_lem (a ∷ b ∷ []) byte = omega (arith, byte 0, byte 1)
word_range_lem (a ∷ b ∷ c ∷ []) byte = omega (arith, byte 0, byte 1, byte 2)
word_range_lem (a ∷ b ∷ c ∷ d ∷ s) byte = omega (arith, byte 0, byte 1, byte 2, byte 3)

pub stored_again : (s : List ℕ) → 4 ≤ length s → Bytes s → signed_bytes (signed_word (little_endian 4 s)) ≡ take 4 s
unfolding signed_bytes
stored_again s l byte = rw (word_again (little_endian 4 s) (word_range_lem s byte)) (four_again s l byte)

-- ---- the most significant byte first

reversed_bytes : (x : ℕ) → Bytes (reverse (four_bytes x))
unfolding four_bytes
reversed_bytes x zero = omega arith
reversed_bytes x (suc zero) = omega arith
reversed_bytes x (suc (suc zero)) = omega arith
reversed_bytes x (suc (suc (suc zero))) = omega arith
reversed_bytes x (suc (suc (suc (suc i)))) = omega arith

pub turned_bytes : (w : ℕ) → four_bytes (turned_word w) ≡ reverse (four_bytes w)
unfolding turned_word four_bytes
turned_bytes w = four_again (reverse (four_bytes w)) (omega arith) (reversed_bytes w)

turned_range : (w : ℕ) → turned_word w < word_range
unfolding turned_word
turned_range w = word_range_lem (reverse (four_bytes w)) (reversed_bytes w)

-- the word that stands at the front, turned round
pub turned_read : (s : List ℕ) → 4 ≤ length s → Bytes s → turned_word (little_endian 4 s) ≡ little_endian 4 (reverse (take 4 s))
unfolding turned_word
turned_read s l byte = ap (λ (b : List ℕ). little_endian 4 (reverse b)) (four_again s l byte)

pub big_back : (z : ℤ) → Within greatest_length z → signed_word (little_endian 4 (reverse (big_endian z))) ≡ z
unfolding big_endian
big_back z l = rw (reverse-reverse (signed_bytes z), ← append-nil (signed_bytes z)) (stored_back z [] l)

pub big_again : (s : List ℕ) → 4 ≤ length s → Bytes s → big_endian (signed_word (little_endian 4 (reverse (take 4 s)))) ≡ take 4 s
unfolding big_endian signed_bytes
big_again s l byte =
    let w = little_endian 4 s in
    rw (← turned_read s l byte, word_again (turned_word w) (turned_range w), turned_bytes w)
    (reverse-reverse (four_bytes w) ∙ four_again s l byte)

-- the number of four bytes is not far from zero
pub big_within : (s : List ℕ) → 4 ≤ length s → Bytes s → Within word_range (signed_word (little_endian 4 (reverse (take 4 s))))
big_within s l byte =
    let w = little_endian 4 s in
    rw (← turned_read s l byte) (signed_within (turned_word w) (turned_range w))
