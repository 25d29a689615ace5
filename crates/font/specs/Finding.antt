-- The record that a lookup comes to, among records that rise.
--     FoundAt        what a lookup comes to, bytes and place
--     found_none     where no record is the symbol's
--     other_key      a record with another key is not the symbol's
--     found_there    the record with the symbol's key is the first that is the symbol's
--     lies           the part of the records that was found
-- The definition of a font is the first record that is the symbol's, in whatever order they stand; rising records make it the only one.
-- Assumes nothing.
use Rattle.std.specs.Prelude.{◌≡◌, Bool, true, false, ℕ, zero, suc, ◌+◌, ◌*◌, ◌<◌, length, get_or}
use Rattle.std.proofs.Math.Path.{refl, ap}
use Rattle.std.proofs.Common.{sym, ◌∙◌, arith, eq-eqb, ne_eqb}
use mathlib.Core.List.{List, [], ◌∷◌}
use Rattle.font.specs.Records.{character_bytes, rising}
use Rattle.font.specs.Font.{is_of, record_in, place_in, past}
use Rattle.font.specs.Keys.{key_of, key_in, Bytes, AllInBytes, is_of_key, rising_keys}

-- among l the record r is the symbol's, or no bytes if none is, and k bytes stand before it
pub record FoundAt (size family code : ℕ) (l : List (List ℕ)) (r : List ℕ) (k : ℕ) : Type 0 where
  pub bytes : record_in size family code l ≡ r
  pub place : place_in size family code l ≡ k

module _ (size family code : ℕ) where
  chosen : {A : Type 0} → A → A → Bool → A
  chosen a behind b = elim b [ true ↦ a | false ↦ behind ]

  -- the first is the symbol's
  found_first : (r : List ℕ) (l : List (List ℕ)) → is_of size family code r ≡ true → FoundAt size family code (r ∷ l) r 0
  unfolding record_in place_in chosen
  found_first r l is =
      record { bytes = ap (chosen r (record_in size family code l)) is; place = ap (chosen 0 (character_bytes + place_in size family code l)) is }

  -- the first is not
  found_behind : (r : List ℕ) (l : List (List ℕ)) {q : List ℕ} {k : ℕ} → is_of size family code r ≡ false → FoundAt size family code l q k →
      FoundAt size family code (r ∷ l) q (character_bytes + k)
  unfolding record_in place_in chosen
  found_behind r l is found =
      record {
        bytes = ap (chosen r (record_in size family code l)) is ∙ found.bytes;
        place = ap (chosen 0 (character_bytes + place_in size family code l)) is ∙ ap (λ (k : ℕ). character_bytes + k) found.place;
      }

  -- no record is the symbol's
  pub found_none : (l : List (List ℕ)) → ((i : ℕ) → i < length l → is_of size family code (get_or l i []) ≡ false) →
      FoundAt size family code l [] (character_bytes * length l)
  unfolding record_in place_in
  found_none [] other = record { bytes = refl; place = refl }
  found_none (r ∷ l) other =
      let here = found_behind r l (other 0 (omega arith)) (found_none l (λ i h. other (suc i) (omega arith))) in
      record { bytes = here.bytes; place = omega (arith, here.place) }

  -- the m-th is, and none before it
  found_at : (l : List (List ℕ)) (m : ℕ) → m < length l → is_of size family code (get_or l m []) ≡ true →
      ((i : ℕ) → i < m → is_of size family code (get_or l i []) ≡ false) →
      FoundAt size family code l (get_or l m []) (character_bytes * m)
  found_at [] m h is other = absurd (omega arith)
  found_at (r ∷ l) zero h is other = found_first r l is
  found_at (r ∷ l) (suc m) h is other =
      let here = found_behind r l (other 0 (omega arith)) (found_at l m (omega arith) is (λ i k. other (suc i) (omega arith))) in
      record { bytes = here.bytes; place = omega (arith, here.place) }

module _ (l : List (List ℕ)) (bytes : AllInBytes l) (size family code : ℕ) (b : Bytes family code) where
  pub other_key : (i : ℕ) → (key_in (get_or l i []) ≡ key_of size family code → ⊥) → is_of size family code (get_or l i []) ≡ false
  other_key i h = is_of_key size family code (get_or l i []) b (bytes i) ∙ ne_eqb _ _ h

  pub found_there : rising l ≡ true → (m : ℕ) → m < length l → key_in (get_or l m []) ≡ key_of size family code →
      FoundAt size family code l (get_or l m []) (character_bytes * m)
  found_there up m h same =
      found_at size family code l m h (is_of_key size family code (get_or l m []) b (bytes m) ∙ eq-eqb _ _ same)
      (λ i g. other_key i (λ e. let earlier = rising_keys l bytes up i m g h in omega arith))

-- ---- what a part of the records holds, and where it starts

module _ (size family code : ℕ) {l : List (List ℕ)} {r : List ℕ} {k : ℕ} (f : FoundAt size family code l r k) where
  pub lies : (p : ℕ × ℕ) {q : List ℕ} → q ≡ r → (q ≡ record_in size family code l) × (past k p ≡ past (place_in size family code l) p)
  lies p e = (e ∙ sym f.bytes, rw f.place)
