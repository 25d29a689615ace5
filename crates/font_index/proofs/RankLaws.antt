-- Where a symbol's record stands among records that rise: as many stand before it as have a lesser key, and these are counted code by code.
--     present_on     codes present in one row and the next
--     has_tally      a symbol has one record, or none
--     rank           how many records have a lesser key than a symbol's
--     rank_code      those before its family, and one for each lesser code of the family that is present
--     ranked         the record at that number, if any is the symbol's
-- Assumes nothing.
use mathlib.Core.Path.{◌≡◌, refl, sym, ap, ap₂, ◌∙◌}
use mathlib.Core.Bool.{Bool, true, false, ◌||◌, and-eq-true_iff}
use mathlib.Core.List.{List, [], ◌∷◌}
use Prim.Native.Nat.{ℕ, zero, suc, ◌+◌, ◌*◌, ◌<◌, ◌≤◌}
use native.Mathlib.Omega.{arith}
use borrow.Author.Tests.{lt-ltb, le-ltb, ne_eqb, ltb-true, ltb-false, eqb-true, eqb-false}
use lib.Dec.{ltb, eqb}
use lib.ListN.{length, get_or}
use Rattle.font.specs.Records.{size_byte, family_byte, before, rising}
use Rattle.font.specs.Keys.{key_of, key_in, Bytes, AllInBytes, alike, in_order, is_of_key, rising_keys}
use Rattle.font_index.specs.TallyLaws.{tally_none, tally_sum}
use Rattle.font_index.specs.Index.{one, has, tally, earlier, start_of}
use Rattle.font_index.proofs.BitLaws.{present_in}

tally_same : (t u : List ℕ → Bool) (l : List (List ℕ)) → ((i : ℕ) → i < length l → t (get_or l i []) ≡ u (get_or l i [])) → tally t l ≡ tally u l
unfolding tally
tally_same t u [] same = refl
tally_same t u (r ∷ l) same = ap₂ (λ (b : Bool) (n : ℕ). one b + n) (same 0 (omega arith)) (tally_same t u l (λ i h. same (suc i) (omega arith)))

-- ---- codes, one row after the other

present_add : (P : ℕ → Bool) (first m n : ℕ) → present_in P first (m + n) ≡ present_in P first m + present_in P (first + m) n
unfolding present_in
present_add P first zero n =
    let e : first + 0 ≡ first = omega arith in
    let f : 0 + n ≡ n = omega arith in
    ap (present_in P first) f ∙ omega (arith, ap (λ (k : ℕ). present_in P k n) e)
present_add P first (suc m) n =
    let on : suc first + m ≡ first + suc m = omega arith in
    let rest = present_add P (suc first) m n in
    let f : suc m + n ≡ suc (m + n) = omega arith in
    ap (present_in P first) f ∙ ap (λ (k : ℕ). one (P first) + k) rest ∙ omega (arith, ap (λ (k : ℕ). present_in P k n) on)

-- from the first code on
pub present_none : (P : ℕ → Bool) (first : ℕ) → present_in P first 0 ≡ 0
unfolding present_in
present_none P first = refl

pub present_on : (P : ℕ → Bool) (m n : ℕ) → present_in P 0 (m + n) ≡ present_in P 0 m + present_in P m n
present_on P m n = let e : 0 + m ≡ m = omega arith in present_add P 0 m n ∙ ap (λ (k : ℕ). present_in P 0 m + present_in P k n) e

-- ---- one key after the other

key_next : (x k : ℕ) → one (ltb x (suc k)) ≡ one (ltb x k) + one (eqb x k)
key_next x k = go (ltb x k) refl (eqb x k) refl
  where
    go : (l : Bool) → ltb x k ≡ l → (e : Bool) → eqb x k ≡ e → one (ltb x (suc k)) ≡ one l + one e
    go true less true is = let a = ltb-true x k less in let b : x ≡ k = eqb-true x k is in absurd (omega arith)
    go true less false is = let a = ltb-true x k less in ap one (lt-ltb x (suc k) (omega arith))
    go false more true is = let b : x ≡ k = eqb-true x k is in ap one (lt-ltb x (suc k) (omega arith))
    go false more false is = let a = ltb-false x k more in let b = eqb-false x k is in ap one (le-ltb x (suc k) (omega arith))

-- ---- records that rise

rising_rest : (r : List ℕ) (l : List (List ℕ)) → rising (r ∷ l) ≡ true → rising l ≡ true
unfolding rising
rising_rest r [] up = refl
rising_rest r (q ∷ l) up = ((and-eq-true_iff (before r q) (rising (q ∷ l))).0 up).1

-- the key of a record, that of one behind it
later : (r : List ℕ) (l : List (List ℕ)) → AllInBytes (r ∷ l) → rising (r ∷ l) ≡ true → (i : ℕ) → i < length l → key_in r < key_in (get_or l i [])
later r l bytes up i h = rising_keys (r ∷ l) bytes up 0 (suc i) (omega arith) (omega arith)

-- how many have a lesser key
abbrev pub rank : ℕ → List (List ℕ) → ℕ
rank k l = tally (λ r. ltb (key_in r) k) l

module _ (size family code : ℕ) (b : Bytes family code) where
  abbrev key : ℕ
  key = key_of size family code

  -- the first record is the symbol's, or it is not
  has_first : (r : List ℕ) (l : List (List ℕ)) → AllInBytes (r ∷ l) → rising (r ∷ l) ≡ true →
      one (has size family l code) ≡ tally (λ r. eqb (key_in r) key) l → (t : Bool) → eqb (key_in r) key ≡ t →
      one (t || has size family l code) ≡ one t + tally (λ r. eqb (key_in r) key) l
  has_first r l bytes up rest true is =
      let same : key_in r ≡ key = eqb-true _ _ is in
      let none_left =
      tally_none (λ r. eqb (key_in r) key) l
      (λ i h. ne_eqb _ _ (λ (e : key_in (get_or l i []) ≡ key). let more = later r l bytes up i h in omega arith)) in
      omega (arith, none_left)
  has_first r l bytes up rest false is = rest ∙ omega arith

  has_tally : (l : List (List ℕ)) → AllInBytes l → rising l ≡ true → one (has size family l code) ≡ tally (λ r. eqb (key_in r) key) l
  unfolding has tally
  has_tally [] bytes up = refl
  has_tally (r ∷ l) bytes up =
      ap (λ (t : Bool). one (t || has size family l code)) (is_of_key size family code r b (bytes 0))
      ∙ has_first r l bytes up (has_tally l (λ i. bytes (suc i)) (rising_rest r l up)) (eqb (key_in r) key) refl

  rank_next : (l : List (List ℕ)) → AllInBytes l → rising l ≡ true →
      rank (key_of size family (suc code)) l ≡ rank key l + one (has size family l code)
  rank_next l bytes up =
      let on : key_of size family (suc code) ≡ suc key = omega arith in
      ap (λ (k : ℕ). rank k l) on
      ∙ tally_sum (λ r. ltb (key_in r) (suc key)) (λ r. ltb (key_in r) key) (λ r. eqb (key_in r) key) l (λ i h. key_next (key_in (get_or l i [])) key)
      ∙ ap (λ (n : ℕ). rank key l + n) (sym (has_tally l bytes up))

  -- the record at that number
  pub record Ranked (l : List (List ℕ)) : Type 0 where
    pub within : rank key l < length l
    pub same : key_in (get_or l (rank key l) []) ≡ key

  ranked_first : (r : List ℕ) (l : List (List ℕ)) → AllInBytes (r ∷ l) → rising (r ∷ l) ≡ true → (t : Bool) → eqb (key_in r) key ≡ t →
      (has size family l code ≡ true → Ranked l) → (t || has size family l code) ≡ true → Ranked (r ∷ l)
  unfolding tally
  ranked_first r l bytes up true is rest so =
      let same : key_in r ≡ key = eqb-true _ _ is in
      let here : ltb (key_in r) key ≡ false = le-ltb (key_in r) key (omega arith) in
      let behind : rank key l ≡ 0 =
      tally_none (λ r. ltb (key_in r) key) l (λ i h. le-ltb (key_in (get_or l i [])) key (let more = later r l bytes up i h in omega arith)) in
      let first : rank key (r ∷ l) ≡ 0 = ap₂ (λ (t : Bool) (n : ℕ). one t + n) here behind in
      record { within = omega (arith, first); same = ap (λ (n : ℕ). key_in (get_or (r ∷ l) n [])) first ∙ same }
  ranked_first r l bytes up false is rest so =
      let there = rest so in
      let less : key_in r < key = omega (arith, later r l bytes up (rank key l) there.within, there.same) in
      let on : rank key (r ∷ l) ≡ suc (rank key l) = ap (λ (t : Bool). one t + rank key l) (lt-ltb (key_in r) key less) ∙ omega arith in
      record { within = omega (arith, on, there.within); same = ap (λ (n : ℕ). key_in (get_or (r ∷ l) n [])) on ∙ there.same }

  pub ranked : (l : List (List ℕ)) → AllInBytes l → rising l ≡ true → has size family l code ≡ true → Ranked l
  unfolding has
  ranked [] bytes up is = let z : ◌≡◌ {A = ℕ} 0 1 = ap one is in absurd (omega arith)
  ranked (r ∷ l) bytes up is =
      ranked_first r l bytes up (eqb (key_in r) key) refl (ranked l (λ i. bytes (suc i)) (rising_rest r l up))
      (sym (ap (λ (t : Bool). t || has size family l code) (is_of_key size family code r b (bytes 0))) ∙ is)

module _ (l : List (List ℕ)) (bytes : AllInBytes l) (up : rising l ≡ true) (size family : ℕ) (family_byte_lem : family < 256) where
  rank_codes : (first n : ℕ) → first + n ≤ 256 →
      rank (key_of size family (first + n)) l ≡ rank (key_of size family first) l + present_in (has size family l) first n
  unfolding present_in
  rank_codes first zero h = let e : first + 0 ≡ first = omega arith in rw e (omega arith)
  rank_codes first (suc n) h =
      let on : suc first + n ≡ first + suc n = omega arith in
      let b : Bytes family first = record { family_byte_lem = family_byte_lem; code_byte_lem = omega arith } in
      let rest = rank_codes (suc first) n (omega arith) in
      let here = rank_next size family first b l bytes up in
      ap (λ (c : ℕ). rank (key_of size family c) l) (sym on) ∙ rest ∙ omega (arith, here)

  -- records before those of a size and family
  rank_start : rank (key_of size family 0) l ≡ start_of l size family
  unfolding earlier
  rank_start =
      tally_same (λ r. ltb (key_in r) (key_of size family 0)) (earlier size family) l
      (λ i h.
      let r = get_or l i [] in
      let byte = bytes i in
      sym
      (in_order (size_byte r) size (family_byte r) family byte.family_byte_lem family_byte_lem
      ∙ alike (size_byte r * 256 + family_byte r) (size * 256 + family) (key_in r) (key_of size family 0)
      (λ (g : size_byte r * 256 + family_byte r < size * 256 + family). omega (arith, byte.code_byte_lem))
      (λ (g : size * 256 + family ≤ size_byte r * 256 + family_byte r). omega arith)))

  pub rank_code : (code : ℕ) → code < 256 → start_of l size family + present_in (has size family l) 0 code ≡ rank (key_of size family code) l
  rank_code code h =
      let e : 0 + code ≡ code = omega arith in
      sym
      (ap (λ (c : ℕ). rank (key_of size family c) l) (sym e)
      ∙ rank_codes 0 code (omega arith)
      ∙ ap (λ (n : ℕ). n + present_in (has size family l) 0 code) rank_start)
