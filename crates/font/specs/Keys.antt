-- The order of CH records as the order of numbers: a record's size, family and code as one key.
--     key_of, key_in                 the key of a size, family and code, and of a record
--     key_order, same_key          the order of keys is that by size, then family, then code, and they are the same where these are
--     before_key, is_of_key        records stand in the order of their keys, and a record is a symbol's where its key is
--     rising_keys                  of rising records a later one has a greater key
-- A table's bytes are below 256, so that no two symbols have one key.
-- Assumes nothing.
use Rattle.std.specs.Prelude.{◌≡◌, refl, Bool, true, false, ◌&&◌, ◌||◌, List, [], ◌∷◌, ℕ, zero, suc, ◌+◌, ◌*◌, ◌<◌, ◌≤◌, ltb, eqb, length, get_or}
use Rattle.std.proofs.Common.{sym, ap, ap₂, ◌∙◌, arith, lt-ltb, le-ltb, eq-eqb, ne_eqb, ltb-true, ltb-false, eqb-true}
use Rattle.std.proofs.Math.Bool.{and-eq-true_iff}
use Rattle.std.proofs.lemmas.Bool.{eqb-false}
use Rattle.font.specs.Records.{size_byte, family_byte, code_byte, before, rising}
use Rattle.font.specs.Font.{is_of}

abbrev pub key_of : ℕ → ℕ → ℕ → ℕ
key_of size family code = (size * 256 + family) * 256 + code

abbrev pub key_in : List ℕ → ℕ
key_in r = key_of (size_byte r) (family_byte r) (code_byte r)

-- the keys of bytes are below this one
abbrev pub key_range : ℕ
key_range = 16_777_216

-- a family and a code that are bytes
pub record Bytes (family code : ℕ) : Type 0 where
  pub family_byte_lem : family < 256
  pub code_byte_lem : code < 256

abbrev pub InBytes : List ℕ → Type 0
InBytes r = Bytes (family_byte r) (code_byte r)

-- ---- numbers in two parts, of which the second is a byte

-- two tests of one value
pub alike : (x y m n : ℕ) → (x < y → m < n) → (y ≤ x → n ≤ m) → ltb x y ≡ ltb m n
alike x y m n up down = go (ltb x y) refl
  where
    go : (t : Bool) → ltb x y ≡ t → ltb x y ≡ ltb m n
    go true e = e ∙ sym (lt-ltb m n (up (ltb-true x y e)))
    go false e = e ∙ sym (le-ltb m n (down (ltb-false x y e)))

module _ (a d x y : ℕ) (p : x < 256) (q : y < 256) where
  abbrev first : ℕ
  first = a * 256 + x

  abbrev second : ℕ
  second = d * 256 + y

  -- the order by the first part, and by the second where the first are equal
  pub in_order : (ltb a d || (eqb a d && ltb x y)) ≡ ltb first second
  in_order = go (ltb a d) refl (eqb a d) refl
    where
      go : (l : Bool) → ltb a d ≡ l → (e : Bool) → eqb a d ≡ e → (l || (e && ltb x y)) ≡ ltb first second
      go true less e is = let lower = ltb-true a d less in sym (lt-ltb first second (omega arith))
      go false more true is =
          let same : a ≡ d = eqb-true a d is in
          alike x y first second (λ (h : x < y). omega arith) (λ (h : y ≤ x). omega arith)
      go false more false is =
          let higher = ltb-false a d more in
          let other = eqb-false a d is in
          sym (le-ltb first second (omega arith))

  pub same_parts : (eqb a d && eqb x y) ≡ eqb first second
  same_parts = go (eqb a d) refl (eqb x y) refl
    where
      go : (e : Bool) → eqb a d ≡ e → (f : Bool) → eqb x y ≡ f → (e && f) ≡ eqb first second
      go true e true f =
          let upper = eqb-true a d e in
          let lower = eqb-true x y f in
          sym (eq-eqb first second (omega arith))
      go true e false f = sym (ne_eqb first second (λ (h : first ≡ second). eqb-false x y f (omega arith)))
      go false e f g = sym (ne_eqb first second (λ (h : first ≡ second). eqb-false a d e (omega arith)))

-- ---- records

-- the order by the first of three, the second, the third: that by the first two, and by the third
regroup : (l e m f n : Bool) → (l || (e && (m || (f && n)))) ≡ ((l || (e && m)) || ((e && f) && n))
regroup true e m f n = refl
regroup false false m f n = refl
regroup false true m f n = refl

-- of two sizes, families and codes
module _ (s f c t g d : ℕ) (b : Bytes f c) (e : Bytes g d) where
  pub key_order : (ltb s t || (eqb s t && (ltb f g || (eqb f g && ltb c d)))) ≡ ltb (key_of s f c) (key_of t g d)
  key_order =
      regroup (ltb s t) (eqb s t) (ltb f g) (eqb f g) (ltb c d)
      ∙ ap₂ (λ (l e : Bool). l || (e && ltb c d)) (in_order s t f g b.family_byte_lem e.family_byte_lem) (same_parts s t f g b.family_byte_lem e.family_byte_lem)
      ∙ in_order (s * 256 + f) (t * 256 + g) c d b.code_byte_lem e.code_byte_lem

  pub same_key : (eqb s t && eqb f g && eqb c d) ≡ eqb (key_of s f c) (key_of t g d)
  same_key =
      ap (λ (u : Bool). u && eqb c d) (same_parts s t f g b.family_byte_lem e.family_byte_lem)
      ∙ same_parts (s * 256 + f) (t * 256 + g) c d b.code_byte_lem e.code_byte_lem

pub before_key : (r q : List ℕ) → InBytes r → InBytes q → before r q ≡ ltb (key_in r) (key_in q)
unfolding before
before_key r q b d = key_order (size_byte r) (family_byte r) (code_byte r) (size_byte q) (family_byte q) (code_byte q) b d

pub is_of_key : (size family code : ℕ) (r : List ℕ) → Bytes family code → InBytes r →
    is_of size family code r ≡ eqb (key_in r) (key_of size family code)
unfolding is_of
is_of_key size family code r b d = same_key (size_byte r) (family_byte r) (code_byte r) size family code d b

-- ---- rising records

abbrev pub AllInBytes : List (List ℕ) → Type 0
AllInBytes l = (i : ℕ) → InBytes (get_or l i [])

pub rising_keys : (l : List (List ℕ)) → AllInBytes l → rising l ≡ true → (i j : ℕ) → i < j → j < length l →
    key_in (get_or l i []) < key_in (get_or l j [])
unfolding rising
rising_keys [] b up i j h k = absurd (omega arith)
rising_keys (r ∷ []) b up i j h k = absurd (omega arith)
rising_keys (r ∷ q ∷ l) b up zero zero h k = absurd (omega arith)
rising_keys (r ∷ q ∷ l) b up zero (suc zero) h k =
    let both = (and-eq-true_iff (before r q) (rising (q ∷ l))).0 up in
    ltb-true (key_in r) (key_in q) (sym (before_key r q (b 0) (b 1)) ∙ both.0)
rising_keys (r ∷ q ∷ l) b up zero (suc (suc j)) h k =
    let both = (and-eq-true_iff (before r q) (rising (q ∷ l))).0 up in
    let next : key_in r < key_in q = ltb-true (key_in r) (key_in q) (sym (before_key r q (b 0) (b 1)) ∙ both.0) in
    let later : key_in q < key_in (get_or l j []) = rising_keys (q ∷ l) (λ i. b (suc i)) both.1 zero (suc j) (omega arith) (omega arith) in
    omega arith
rising_keys (r ∷ q ∷ l) b up (suc i) zero h k = absurd (omega arith)
rising_keys (r ∷ q ∷ l) b up (suc i) (suc j) h k =
    rising_keys (q ∷ l) (λ i. b (suc i)) ((and-eq-true_iff (before r q) (rising (q ∷ l))).0 up).1 i j (omega arith) (omega arith)
