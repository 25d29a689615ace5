-- An index by its words.
--     index_length            it has 240
--     code_of                 of a size and family, the words of bits
--     index_long, word_at     words that start with an index: that they are enough, and where each of a size and family stands
--     index_front             words that are right each by each start with the index
-- Assumes nothing.
use Rattle.std.specs.Prelude.{◌≡◌, Bool, List, ◌++◌, length, take}
use Rattle.std.proofs.Math.Path.{refl, sym, ap, ap₂}
use Rattle.std.proofs.Common.{◌∙◌, length-take, get_or-take, length-take-le, ext_get_or}
use Rattle.std.proofs.Math.Bool.{true, false}
use Prim.Native.Nat.{ℕ, zero, suc, ◌+◌, ◌*◌, ◌/◌, ◌%◌, ◌<◌, ◌≤◌}
use Rattle.std.proofs.Math.Nat.{mul-le-mul_right, suc-mul}
use native.Mathlib.Omega.{arith}
use borrow.Author.Tests.{ltb-true, ltb-false}
use Rattle.std.proofs.Math.Dec.{ltb}
use Rattle.std.proofs.Math.ListN.{get_or, length-append, get_or-append}
use Rattle.std.proofs.Math.Seq.{get_or-append-add}
use Rattle.font.specs.Records.{size_count}
use Rattle.font_index.specs.Index.{family_count, bit_words, group_words, index_words, code_word, group_of, each, index_of, Indexes, group_word}

-- ---- lists of one length, one after the other

module _ (w : ℕ) (f : ℕ → List ℕ) (wide : (a : ℕ) → length (f a) ≡ w) where
  length_each : (n : ℕ) → length (each n f) ≡ n * w
  unfolding each
  length_each zero = omega arith
  length_each (suc n) = length-append (each n f) (f n) ∙ ap₂ (λ (a b : ℕ). a + b) (length_each n) (wide n) ∙ sym (suc-mul n w)

  each_at : (n a k : ℕ) → a < n → k < w → get_or (each n f) (a * w + k) 0 ≡ get_or (f a) k 0
  unfolding each
  each_at zero a k h g = absurd (omega arith)
  each_at (suc n) a k h g = go (ltb a n) refl (each_at n a k)
    where
      go : (t : Bool) → ltb a n ≡ t → (a < n → k < w → get_or (each n f) (a * w + k) 0 ≡ get_or (f a) k 0) →
          get_or (each n f ++ f n) (a * w + k) 0 ≡ get_or (f a) k 0
      go true less there =
          let small : suc a * w ≤ n * w = mul-le-mul_right w (ltb-true a n less) in
          get_or-append (each n f) (f n) 0 (a * w + k) (omega (arith, small, suc-mul a w, length_each n)) ∙ there (ltb-true a n less) g
      go false last there =
          let same : a ≡ n = omega (arith, ltb-false a n last) in
          ap (λ (i : ℕ). get_or (each n f ++ f n) (i + k) 0) (ap (λ (a : ℕ). a * w) same ∙ sym (length_each n))
          ∙ get_or-append-add (each n f) (f n) k 0
          ∙ ap (λ (a : ℕ). get_or (f a) k 0) (sym same)

-- ---- where each word stands

module _ (l : List (List ℕ)) where
  wide_group : (size family : ℕ) → length (group_of l size family) ≡ 5
  wide_group size family = refl

  wide_size : (size : ℕ) → length (each family_count (λ family. group_of l size family)) ≡ 80
  wide_size size = length_each 5 (λ family. group_of l size family) (wide_group size) family_count

  pub index_length : length (index_of l) ≡ index_words
  unfolding index_of each
  index_length = refl

  index_at : (size family k : ℕ) → size < 3 → family < 16 → k < 5 →
      get_or (index_of l) (group_words * (family_count * size + family) + k) 0 ≡ get_or (group_of l size family) k 0
  unfolding index_of
  index_at size family k h g j =
      let at : group_words * (family_count * size + family) + k ≡ size * 80 + (family * 5 + k) = omega arith in
      ap (λ (i : ℕ). get_or (index_of l) i 0) at
      ∙ each_at 80 _ wide_size size_count size (family * 5 + k) h (omega arith)
      ∙ each_at 5 (λ family. group_of l size family) (wide_group size) family_count family k g j

  pub code_of : (size family k : ℕ) → k < bit_words → get_or (group_of l size family) k 0 ≡ code_word l size family k
  code_of size family zero h = refl
  code_of size family (suc zero) h = refl
  code_of size family (suc (suc zero)) h = refl
  code_of size family (suc (suc (suc zero))) h = refl
  code_of size family (suc (suc (suc (suc k)))) h = absurd (omega arith)

-- ---- words that start with an index

module _ (words : List ℕ) (l : List (List ℕ)) where
  module _ (is : Indexes words l) where
    pub index_long : index_words ≤ length words
    index_long = let e = sym (length-take index_words words) ∙ ap length is.front ∙ index_length l in omega arith

    pub word_at : (size family k : ℕ) → size < 3 → family < 16 → k < 5 → group_word words size family k ≡ get_or (group_of l size family) k 0
    word_at size family k h g j =
        sym (get_or-take index_words words _ 0 (omega arith))
        ∙ ap (λ (w : List ℕ). get_or w (group_words * (family_count * size + family) + k) 0) is.front
        ∙ index_at l size family k h g j

  pub index_front : index_words ≤ length words →
      ((size family k : ℕ) → size < 3 → family < 16 → k < 5 → group_word words size family k ≡ get_or (group_of l size family) k 0) →
      take index_words words ≡ index_of l
  index_front long right =
      let whole = length-take-le index_words words long in
      ext_get_or 0 (take index_words words) (index_of l) (whole ∙ sym (index_length l))
      (λ i h.
      let size = i / 80 in
      let family = i / 5 % 16 in
      let at : i ≡ group_words * (family_count * size + family) + i % 5 = omega arith in
      let s : size < 3 = omega (arith, whole) in
      let f : family < 16 = omega arith in
      let k : i % 5 < 5 = omega arith in
      get_or-take index_words words i 0 (omega (arith, whole))
      ∙ ap (λ (j : ℕ). get_or words j 0) at
      ∙ right size family (i % 5) s f k
      ∙ sym (index_at l size family (i % 5) s f k)
      ∙ ap (λ (j : ℕ). get_or (index_of l) j 0) (sym at))
