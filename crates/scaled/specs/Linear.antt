-- `omega` for ℤ. `Exp` is an expression over ℤ, and of an expression e
--     den e          is its value
--     hi e, lo e     are naturals over the parts of its numbers, with den e = hi e − lo e (`sound`)
--     Ok e           is that what is stored as bits fits, and that no divisor is 0
-- So `omega` proves a fact on values from `hi` and `lo`, as the last argument of
--     fits_by                 the value fits 64 bits, as overflow needs ask
--     within_by               the value is within a bound
--     eq_by, le_by            an equation, an order
-- Assumes nothing.
use Rattle.std.specs.Prelude.{ℕ, ◌+◌, ◌-◌, ◌*◌, ◌/◌, ◌^◌, ◌≤◌, ◌<◌, max, min, ℤ, pos, neg_ℤ, ◌+ℤ◌, ◌-ℤ◌, ◌*ℤ◌}
use Rattle.std.proofs.Common.{to_z, of_z}
use Rattle.std.specs.Int.Signed.{shr_z, quot_z}
use Rattle.std.specs.Int.{w64}
use Rattle.scaled.specs.Length.{max_ℤ, min_ℤ, half, units_in_quad, at_quad}
use Rattle.scaled.specs.Signed.{above, below}

infixl 6 ◌⊕◌ ◌⊖◌
pub data Exp : Type 0 where
  # : ℤ → Exp
  ◌⊕◌ ◌⊖◌ : Exp → Exp → Exp
  neg : Exp → Exp
  times : Exp → ℕ → Exp
  product : Exp → Exp → Exp
  greatest least : Exp → Exp → Exp
  halved : Exp → Exp
  -- divided by a number, rounded down
  floor : Exp → ℕ → Exp
  -- divided as the code divides, toward zero: of what is not negative
  quot : Exp → ℕ → Exp
  -- math units at a quad
  units : Exp → Exp → Exp
  -- an unsigned number that is cast to 64 bits
  word : ℕ → Exp
  -- written to 64 bits, and read back
  stored : Exp → Exp

abbrev pub den : Exp → ℤ
den (# z) = z
den (e ⊕ f) = den e +ℤ den f
den (e ⊖ f) = den e -ℤ den f
den (neg e) = neg_ℤ (den e)
den (times e k) = den e *ℤ pos k
den (product e f) = den e *ℤ den f
den (greatest e f) = max_ℤ (den e) (den f)
den (least e f) = min_ℤ (den e) (den f)
den (halved e) = half (den e)
den (floor e k) = shr_z (den e) k
den (quot e k) = quot_z (den e) (to_z w64 k)
den (units e f) = at_quad (den e) (den f)
den (word n) = to_z w64 n
den (stored e) = to_z w64 (of_z w64 (den e))

abbrev mutual
  pub hi : Exp → ℕ
  hi (# z) = above z
  hi (e ⊕ f) = hi e + hi f
  hi (e ⊖ f) = hi e + lo f
  hi (neg e) = lo e
  hi (times e k) = hi e * k
  hi (product e f) = hi e * hi f + lo e * lo f
  hi (greatest e f) = max (hi e + lo f) (hi f + lo e)
  hi (least e f) = min (hi e + lo f) (hi f + lo e)
  hi (halved e) = (hi e + 1 + lo e) / 2
  hi (floor e k) = (hi e + lo e * (k - 1)) / k
  hi (quot e k) = (hi e + lo e * (k - 1)) / k
  hi (units e f) = hi e * ((hi f + lo f * (units_in_quad - 1)) / units_in_quad) + lo e * lo f
  hi (word n) = n
  hi (stored e) = hi e

  pub lo : Exp → ℕ
  lo (# z) = below z
  lo (e ⊕ f) = lo e + lo f
  lo (e ⊖ f) = lo e + hi f
  lo (neg e) = hi e
  lo (times e k) = lo e * k
  lo (product e f) = hi e * lo f + lo e * hi f
  lo (greatest e f) = lo e + lo f
  lo (least e f) = lo e + lo f
  lo (halved e) = lo e
  lo (floor e k) = lo e
  lo (quot e k) = lo e
  lo (units e f) = hi e * lo f + lo e * ((hi f + lo f * (units_in_quad - 1)) / units_in_quad)
  lo (word n) = 0
  lo (stored e) = lo e

-- the value fits 64 bits
abbrev pub Fit : Exp → Type 0
Fit e = (hi e < lo e + 2 ^ 63) × (lo e ≤ hi e + 2 ^ 63)

abbrev pub Ok : Exp → Type 0
Ok (# z) = Unit {0}
Ok (e ⊕ f) = Ok e × Ok f
Ok (e ⊖ f) = Ok e × Ok f
Ok (neg e) = Ok e
Ok (times e k) = Ok e
Ok (product e f) = Ok e × Ok f
Ok (greatest e f) = Ok e × Ok f
Ok (least e f) = Ok e × Ok f
Ok (halved e) = Ok e
Ok (floor e k) = Ok e × (0 < k)
Ok (quot e k) = Ok e × (0 < k) × (k < 2 ^ 63) × (lo e ≤ hi e)
Ok (units e f) = Ok e × Ok f
Ok (word n) = n < 2 ^ 63
Ok (stored e) = Ok e × Fit e
