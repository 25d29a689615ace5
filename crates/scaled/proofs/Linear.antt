-- Laws of `specs/Linear.antt`.
-- Assumes nothing.
use Rattle.std.specs.Prelude.{◌≡◌, ℕ, ◌+◌, ◌≤◌, ℤ, pos, ◌+ℤ◌, ◌≤ℤ◌}
use Rattle.std.proofs.Common.{arith, SFits}
use Rattle.std.specs.Int.{w64}
use Rattle.std.proofs.lemmas.Int.{to_z_pos, to_z-of_z}
use Rattle.scaled.specs.Length.{max_ℤ}
use Rattle.scaled.specs.Signed.{Within, DifferenceOf, own, parts_is, parts_same, parts_le}
use Rattle.scaled.specs.Signed.{parts_add, parts_sub, parts_neg, parts_times, parts_product, parts_max, parts_min}
use Rattle.scaled.specs.Signed.{parts_half, parts_floor, parts_units, fits_parts, quot_floor}
use Rattle.scaled.specs.Linear.{Exp, den, hi, lo, Fit, Ok, #, ◌⊕◌, ◌⊖◌, least, neg, times, product, greatest, halved, floor, quot, units, word, stored}

pub sound : (e : Exp) → Ok e → DifferenceOf (den e) (hi e) (lo e)
sound (# z) o = own z
sound (e ⊕ f) o = parts_add (sound e o.0) (sound f o.1)
sound (e ⊖ f) o = parts_sub (sound e o.0) (sound f o.1)
sound (neg e) o = parts_neg (sound e o)
sound (times e k) o = parts_times (sound e o) k
sound (product e f) o = parts_product (sound e o.0) (sound f o.1)
sound (greatest e f) o = parts_max (sound e o.0) (sound f o.1)
sound (least e f) o = parts_min (sound e o.0) (sound f o.1)
sound (halved e) o = parts_half (sound e o)
sound (floor e k) o = parts_floor (sound e o.0) k o.1
sound (quot e k) o =
    let s = sound e o.0 in
    parts_is (rw (to_z_pos w64 k o.2) (quot_floor (den e) k (omega arith))) (parts_floor s k o.1)
sound (units e f) o = parts_units (sound e o.0) (sound f o.1)
sound (word n) o = parts_is (to_z_pos w64 n o) (own (pos n))
sound (stored e) o =
    let s = sound e o.0 in
    parts_is (to_z-of_z w64 (den e) (fits_parts s o.1.0 o.1.1)) s

module _ (e : Exp) where
  pub fits_by : Ok e × Fit e → SFits w64 (den e)
  fits_by o = fits_parts (sound e o.0) o.1.0 o.1.1

  pub within_by : (k : ℕ) → Ok e × (hi e ≤ lo e + k) × (lo e ≤ hi e + k) → Within k (den e)
  within_by k o = omega (arith, sound e o.0, o)

module _ (e f : Exp) where
  pub eq_by : Ok e × Ok f × (hi e + lo f ≡ hi f + lo e) → den e ≡ den f
  eq_by o = parts_same (sound e o.0) (sound f o.1) o.2

  pub le_by : Ok e × Ok f × (hi e + lo f ≤ hi f + lo e) → den e ≤ℤ den f
  le_by o = parts_le (omega (arith, sound e o.0, sound f o.1, o))

-- for example
max_moved : (a b d : ℤ) → max_ℤ (a +ℤ d) (b +ℤ d) ≡ max_ℤ a b +ℤ d
max_moved a b d = eq_by (greatest (# a ⊕ # d) (# b ⊕ # d)) (greatest (# a) (# b) ⊕ # d) (omega arith)
