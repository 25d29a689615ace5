-- Each z of ℤ as two naturals: how far it lies above zero, and how far below. One of them is 0, and z is their difference.
-- So a linear fact on ℤ is one on naturals, which `omega` proves. In order:
--     above, below       the two naturals
--     Within k z         −k ≤ z ≤ k, and `NotNegative z`: facts on the difference, which `omega` carries through sums
--     DifferenceOf z p n        z is p − n; `own`, that z is the difference of its own two
--     lt_test, le_test   a test of the order, on the parts
--     parts_neg ..       for each operation, the parts of its result from those of its arguments
--     parts_same         equality, and `le_parts`, `parts_le`, `lt_parts`, `parts_lt` the order, by the parts
--     fits_parts ..      what fits 64 bits, and bounds
--     signed             the rules for `omega (arith, signed)`: by them it reads equations and orders of ℤ among the hypotheses,
--                        and proves orders; an equation is proved by `eq_by` of `Linear`
-- Assumes nothing.
use Rattle.std.specs.Prelude.{◌≡◌, refl, Bool, true, false, cond, ◌⊎◌, ℕ, zero, suc, ◌+◌, ◌-◌, ◌*◌, ◌/◌, ◌%◌, ◌^◌, ◌≤◌, ◌<◌, max, min, T, leb, ltb, ℤ, pos, negsuc, neg_ℤ, ◌+ℤ◌, ◌-ℤ◌, ◌*ℤ◌, ◌≤ℤ◌, ◌<ℤ◌}
use Rattle.std.proofs.Common.{sym, ap, subst, ◌∙◌, inl, inr, ⊎_elim, arith, mul-le-mul, div-add-mod', mod-lt, zero-lt-suc, lit<, leb→le, ltb→lt, le→leb, lt→ltb, SFits}
use Rattle.std.proofs.Math.Nat.{add-mul-div_right, div-eq_of_lt-le}
use Rattle.std.proofs.Math.IntN.{sub_ℕ}
use Rattle.std.specs.Int.Signed.{mag, lt_z, le_z, shr_z, quot_z}
use Rattle.std.specs.Int.{w64}
use borrow.Author.Tests.{ltb-true, ltb-false, leb-true, leb-false, lt-ltb, le-ltb, le-leb, lt-leb}
use Rattle.scaled.specs.Length.{pick, max_ℤ, min_ℤ, half, at_quad, units_in_quad}

abbrev pub above : ℤ → ℕ
above (pos n) = n
above (negsuc n) = 0

abbrev pub below : ℤ → ℕ
below (pos n) = 0
below (negsuc n) = suc n

pub record Within (k : ℕ) (z : ℤ) : Type 0 where
  pub over : above z ≤ below z + k
  pub under : below z ≤ above z + k

pub record NotNegative (z : ℤ) : Type 0 where
  pub up : below z ≤ above z

-- z is p − n
pub record DifferenceOf (z : ℤ) (p n : ℕ) : Type 0 where
  pub parts : above z + n ≡ p + below z

pub own : (z : ℤ) → DifferenceOf z (above z) (below z)
own z = record { parts = refl }

-- one of the two is 0
pub apart : (z : ℤ) → (above z ≡ 0) ⊎ (below z ≡ 0)
apart (pos n) = inr refl
apart (negsuc n) = inl refl

-- by cases on a test, with its outcome
by_test : (Q : Bool → Type 0) (t : Bool) → (t ≡ true → Q true) → (t ≡ false → Q false) → Q t
by_test Q true f g = f refl
by_test Q false f g = g refl

-- ---- operations, at the arguments' own parts

parts_sub_ℕ : (a b : ℕ) → DifferenceOf (sub_ℕ a b) a b
parts_sub_ℕ a b =
    by_test (λ (t : Bool). DifferenceOf (cond t (negsuc (b - suc a)) (pos (a - b))) a b) (ltb a b)
    (λ e. omega (arith, ltb-true a b e))
    (λ e. omega (arith, ltb-false a b e))

own_add : (a b : ℤ) → DifferenceOf (a +ℤ b) (above a + above b) (below a + below b)
own_add (pos a) (pos b) = omega arith
own_add (pos a) (negsuc b) = omega (arith, parts_sub_ℕ a (suc b))
own_add (negsuc a) (pos b) = omega (arith, parts_sub_ℕ b (suc a))
own_add (negsuc a) (negsuc b) = omega arith

own_neg : (a : ℤ) → DifferenceOf (neg_ℤ a) (below a) (above a)
own_neg (pos zero) = omega arith
own_neg (pos (suc n)) = omega arith
own_neg (negsuc n) = omega arith

own_product : (a b : ℤ) →
    DifferenceOf (a *ℤ b) (above a * above b + below a * below b) (above a * below b + below a * above b)
own_product (pos a) (pos b) = omega arith
own_product (pos a) (negsuc b) = omega (arith, own_neg (pos (a * suc b)))
own_product (negsuc a) (pos b) = omega (arith, own_neg (pos (suc a * b)))
own_product (negsuc a) (negsuc b) = omega arith

-- the product of s − t and u − v is that of p − n and q − m
cross : (s t u v p n q m : ℕ) → s + n ≡ p + t → u + m ≡ q + v →
    (s * u + t * v) + (p * m + n * q) ≡ (p * q + n * m) + (s * v + t * u)
cross s t u v p n q m h k =
    let hq : (s + n) * q ≡ (p + t) * q = ap (λ (x : ℕ). x * q) h in
    let hm : (s + n) * m ≡ (p + t) * m = ap (λ (x : ℕ). x * m) h in
    let ks : s * (u + m) ≡ s * (q + v) = ap (λ (x : ℕ). s * x) k in
    let kt : t * (u + m) ≡ t * (q + v) = ap (λ (x : ℕ). t * x) k in
    omega arith

-- rounded down, z / k + n is (z + n · k) / k, and below zero too
floor_suc : (z : ℤ) (p n j : ℕ) → DifferenceOf z p n → DifferenceOf (shr_z z (suc j)) ((p + n * j) / suc j) n
floor_suc (pos m) p n j h =
    let s : p + n * j ≡ m + n * suc j = omega arith in
    omega (arith, ap (λ (x : ℕ). x / suc j) s, add-mul-div_right m n (zero-lt-suc j))
floor_suc (negsuc m) p n j h =
    let d = m / suc j in
    let dm : d * suc j + m % suc j ≡ m = div-add-mod' m (suc j) in
    let ml : m % suc j < suc j = mod-lt m (zero-lt-suc j) in
    let t = n - suc d in
    let s : n ≡ t + suc d = omega arith in
    let sj : n * j ≡ (t + suc d) * j = ap (λ (x : ℕ). x * j) s in
    let q : (p + n * j) / suc j ≡ t = div-eq_of_lt-le (suc j) (omega arith) (omega arith) in
    omega arith

-- ---- tests

-- a test of x − y is one of u − v
leb_moved : (x y u v : ℕ) → x + v ≡ u + y → leb x y ≡ leb u v
leb_moved x y u v e =
    by_test (λ (t : Bool). t ≡ leb u v) (leb x y)
    (λ t. let h = leb-true x y t in sym (le-leb u v (omega arith)))
    (λ t. let h = leb-false x y t in sym (lt-leb u v (omega arith)))

module _ {p n q m : ℕ} where
  pub lt_test : {a b : ℤ} → DifferenceOf a p n → DifferenceOf b q m → lt_z a b ≡ ltb (p + m) (q + n)
  lt_test {a = pos a} {b = pos b} h k = leb_moved (suc a) b (suc (p + m)) (q + n) (omega arith)
  lt_test {a = pos a} {b = negsuc b} h k = sym (le-ltb (p + m) (q + n) (omega arith))
  lt_test {a = negsuc a} {b = pos b} h k = sym (lt-ltb (p + m) (q + n) (omega arith))
  lt_test {a = negsuc a} {b = negsuc b} h k = leb_moved (suc b) a (suc (p + m)) (q + n) (omega arith)

  pub le_test : {a b : ℤ} → DifferenceOf a p n → DifferenceOf b q m → le_z a b ≡ leb (p + m) (q + n)
  le_test {a = pos a} {b = pos b} h k = leb_moved a b (p + m) (q + n) (omega arith)
  le_test {a = pos a} {b = negsuc b} h k = sym (lt-leb (p + m) (q + n) (omega arith))
  le_test {a = negsuc a} {b = pos b} h k = sym (le-leb (p + m) (q + n) (omega arith))
  le_test {a = negsuc a} {b = negsuc b} h k = leb_moved b a (p + m) (q + n) (omega arith)

-- ---- the parts of each operation's result

module _ {a : ℤ} {p n : ℕ} (h : DifferenceOf a p n) where
  pub parts_neg : DifferenceOf (neg_ℤ a) n p
  parts_neg = omega (arith, own_neg a)

  pub parts_times : (k : ℕ) → DifferenceOf (a *ℤ pos k) (p * k) (n * k)
  parts_times k = omega (arith, own_product a (pos k), ap (λ (x : ℕ). x * k) h.parts)

  pub parts_floor : (k : ℕ) → 0 < k → DifferenceOf (shr_z a k) ((p + n * (k - 1)) / k) n
  parts_floor zero l = absurd (omega arith)
  parts_floor (suc j) l =
      let e : suc j - 1 ≡ j = omega arith in
      rw e (floor_suc a p n j h)

module _ {a b : ℤ} {p n q m : ℕ} (h : DifferenceOf a p n) (k : DifferenceOf b q m) where
  pub parts_add : DifferenceOf (a +ℤ b) (p + q) (n + m)
  parts_add = omega (arith, own_add a b)

  pub parts_sub : DifferenceOf (a -ℤ b) (p + m) (n + q)
  parts_sub = omega (arith, own_add a (neg_ℤ b), own_neg b)

  pub parts_product : DifferenceOf (a *ℤ b) (p * q + n * m) (p * m + n * q)
  parts_product =
      omega (arith, own_product a b, cross (above a) (below a) (above b) (below b) p n q m h.parts k.parts)

  pub parts_max : DifferenceOf (max_ℤ a b) (max (p + m) (q + n)) (n + m)
  unfolding max_ℤ pick
  parts_max =
      by_test (λ (t : Bool). DifferenceOf (pick t b a) (max (p + m) (q + n)) (n + m)) (lt_z a b)
      (λ e. omega (arith, ltb-true (p + m) (q + n) (sym (lt_test h k) ∙ e)))
      (λ e. omega (arith, ltb-false (p + m) (q + n) (sym (lt_test h k) ∙ e)))

  pub parts_min : DifferenceOf (min_ℤ a b) (min (p + m) (q + n)) (n + m)
  unfolding min_ℤ pick
  parts_min =
      by_test (λ (t : Bool). DifferenceOf (pick t b a) (min (p + m) (q + n)) (n + m)) (lt_z b a)
      (λ e. omega (arith, ltb-true (q + n) (p + m) (sym (lt_test k h) ∙ e)))
      (λ e. omega (arith, ltb-false (q + n) (p + m) (sym (lt_test k h) ∙ e)))

pub parts_half : {a : ℤ} {p n : ℕ} → DifferenceOf a p n → DifferenceOf (half a) ((p + 1 + n) / 2) n
unfolding half
parts_half h = omega (arith, parts_floor (parts_add h (own (pos 1))) 2 (lit< tt))

pub parts_units : {a b : ℤ} {p n q m : ℕ} → DifferenceOf a p n → DifferenceOf b q m →
    let unit = (q + m * (units_in_quad - 1)) / units_in_quad in
    DifferenceOf (at_quad a b) (p * unit + n * m) (p * m + n * unit)
unfolding at_quad
parts_units h k = parts_product h (parts_floor k units_in_quad (lit< tt))

-- ---- equality and the order

pub parts_is : {a b : ℤ} {p n : ℕ} → a ≡ b → DifferenceOf b p n → DifferenceOf a p n
parts_is e h = rw e h

pub parts_same : {a b : ℤ} {p n q m : ℕ} → DifferenceOf a p n → DifferenceOf b q m → p + m ≡ q + n → a ≡ b
parts_same {a = pos a} {b = pos b} h k e = ap pos (omega arith)
parts_same {a = pos a} {b = negsuc b} h k e = absurd (omega arith)
parts_same {a = negsuc a} {b = pos b} h k e = absurd (omega arith)
parts_same {a = negsuc a} {b = negsuc b} h k e = ap negsuc (omega arith)

module _ {a b : ℤ} where
  pub le_parts : a ≤ℤ b → above a + below b ≤ above b + below a
  le_parts h = leb→le _ _ (subst T (le_test (own a) (own b)) h.le)

  pub parts_le : above a + below b ≤ above b + below a → a ≤ℤ b
  parts_le h = record { le = subst T (sym (le_test (own a) (own b))) (le→leb _ _ h) }

  pub lt_parts : a <ℤ b → above a + below b < above b + below a
  lt_parts h = ltb→lt _ _ (subst T (lt_test (own a) (own b)) h.lt)

  pub parts_lt : above a + below b < above b + below a → a <ℤ b
  parts_lt h = record { lt = subst T (sym (lt_test (own a) (own b))) (lt→ltb _ _ h) }

-- ---- 64 bits, and bounds

pub fits_parts : {z : ℤ} {p n : ℕ} → DifferenceOf z p n → p < n + 2 ^ 63 → n ≤ p + 2 ^ 63 → SFits w64 z
fits_parts {z = pos a} h over under = omega arith
fits_parts {z = negsuc a} h over under = omega arith

pub fits_within : {k : ℕ} {z : ℤ} → Within k z → k < 2 ^ 63 → SFits w64 z
fits_within {z} h l = fits_parts (own z) (omega arith) (omega arith)

-- that z fits is `mag z < 2 ^ 63`
pub mag_parts : (z : ℤ) → (above z ≤ mag z) × (below z ≤ mag z + 1)
mag_parts (pos n) = omega arith
mag_parts (negsuc n) = omega arith

pub within_parts : {k : ℕ} {z : ℤ} → Within k z → (above z ≤ k) × (below z ≤ k)
within_parts {z} h = ⊎_elim (λ a. omega arith) (λ b. omega arith) (apart z)

pub within_times : {j k m : ℕ} {a : ℤ} → Within j a → m ≤ k → Within (j * k) (a *ℤ pos m)
within_times {m} {a} h l =
    let b = within_parts h in
    omega (arith, parts_times (own a) m, mul-le-mul b.0 l, mul-le-mul b.1 l)

-- toward zero is down, of what is not negative
pub quot_floor : (z : ℤ) (k : ℕ) → NotNegative z → quot_z z (pos k) ≡ shr_z z k
quot_floor (pos n) k h = refl
quot_floor (negsuc n) k h = absurd (omega arith)

-- ---- the rules for `omega`

module _ (r a : ℤ) where
  pub by_neg : r ≡ neg_ℤ a → above r + above a ≡ below a + below r
  by_neg e = (parts_is e (parts_neg (own a))).parts

  pub by_times : (k : ℕ) → r ≡ a *ℤ pos k → above r + below a * k ≡ above a * k + below r
  by_times k e = (parts_is e (parts_times (own a) k)).parts

  pub by_half : r ≡ half a → above r + below a ≡ (above a + 1 + below a) / 2 + below r
  by_half e = (parts_is e (parts_half (own a))).parts

  pub by_floor : (j : ℕ) → r ≡ shr_z a (suc j) → above r + below a ≡ (above a + below a * j) / suc j + below r
  by_floor j e = (parts_is e (floor_suc a (above a) (below a) j (own a))).parts

module _ (r a b : ℤ) where
  pub by_add : r ≡ a +ℤ b → above r + (below a + below b) ≡ (above a + above b) + below r
  by_add e = (parts_is e (parts_add (own a) (own b))).parts

  pub by_sub : r ≡ a -ℤ b → above r + (below a + above b) ≡ (above a + below b) + below r
  by_sub e = (parts_is e (parts_sub (own a) (own b))).parts

  pub by_max : r ≡ max_ℤ a b →
      above r + (below a + below b) ≡ max (above a + below b) (above b + below a) + below r
  by_max e = (parts_is e (parts_max (own a) (own b))).parts

  pub by_min : r ≡ min_ℤ a b →
      above r + (below a + below b) ≡ min (above a + below b) (above b + below a) + below r
  by_min e = (parts_is e (parts_min (own a) (own b))).parts

pub ruleset signed = (by_sub, by_add, by_neg, by_times, by_half, by_floor, by_max, by_min, le_parts, lt_parts, parts_le, parts_lt)

-- for example
signed_bound : (a b c d e : ℤ) → Within 100 a → b ≤ℤ a → c ≡ max_ℤ a b → d ≡ c -ℤ b → e ≡ half c → e ≤ℤ pos 50
signed_bound a b c d e h l p q r = omega (arith, signed)
