-- The code computes on 64 bits: it reads its numbers from bits, and its result is read back from bits. Here, for each operation
-- that the code does on them, that the result fits, and which number is read back (`Kept`).
-- Assumes nothing.
use mathlib.Core.Path.{◌≡◌, refl, ap₂, ◌∙◌}
use Prim.Native.Nat.{ℕ}
use native.Mathlib.Omega.{arith}
use lib.IntN.{ℤ, pos, ◌+ℤ◌, ◌-ℤ◌, ◌*ℤ◌}
use lib.Signed.{shr_z, quot_z, mag_shr}
use mir.Syntax.{w8, w16, w64}
use mir.Val.{Fits, SFits, to_z, of_z}
use mir.ValLaws.{to_z-of_z, to_z_pos, sfits_le}
use Rattle.scaled.specs.Length.{units_in_quad, at_quad}
use Rattle.scaled.specs.Signed.{Within, NotNegative, own, fits_parts, fits_within, within_times, mag_parts, quot_floor}
use Rattle.scaled.specs.Linear.{#, ◌⊕◌, ◌⊖◌}
use Rattle.scaled.proofs.Linear.{fits_by}
use Rattle.scaled.specs.Made.{reach}
use Rattle.scaled.proofs.Made.{at_quad_lem}

-- z is written to bits and read from them
abbrev pub read : ℤ → ℤ
read z = to_z w64 (of_z w64 z)

abbrev pub Kept : ℤ → ℤ → Type 0
Kept z v = SFits w64 z × (read z ≡ v)

kept : {z v : ℤ} → z ≡ v → SFits w64 v → Kept z v
kept {z} is fit =
    let f : SFits w64 z = rw is fit in
    (f, to_z-of_z w64 z f ∙ is)

read_small : {a : ℤ} → Within reach a → read a ≡ a
read_small {a} small = to_z-of_z w64 a (fits_within small (omega arith))

module _ {a b : ℤ} (small : Within reach a × Within reach b) where
  pub sum_kept : Kept (read a +ℤ read b) (a +ℤ b)
  sum_kept =
      kept (ap₂ ◌+ℤ◌ (read_small small.0) (read_small small.1)) (fits_by (# a ⊕ # b) (omega arith))

  pub difference_kept : Kept (read a -ℤ read b) (a -ℤ b)
  difference_kept =
      kept (ap₂ ◌-ℤ◌ (read_small small.0) (read_small small.1)) (fits_by (# a ⊖ # b) (omega arith))

pub multiple_kept : {a : ℤ} {k : ℕ} → Within reach a → Fits w8 k → Kept (read a *ℤ to_z w64 k) (a *ℤ pos k)
multiple_kept {k} small byte =
    kept (ap₂ ◌*ℤ◌ (read_small small) (to_z_pos w64 k (omega arith)))
    (fits_within (within_times {k = 255} small (omega arith)) (omega arith))

pub part_kept : {a : ℤ} {k : ℕ} → NotNegative a → SFits w64 a → Fits w16 k →
    Kept (quot_z (read a) (to_z w64 k)) (shr_z a k)
part_kept {a} {k} up fit short =
    kept (ap₂ quot_z (to_z-of_z w64 a fit) (to_z_pos w64 k (omega arith)) ∙ quot_floor a k up)
    (sfits_le (mag_shr a k) fit)

pub units_kept : {a quad unit : ℤ} → Within units_in_quad a → NotNegative quad → SFits w64 quad → SFits w64 unit →
    unit ≡ shr_z quad units_in_quad → Kept (read a *ℤ read unit) (at_quad a quad)
unfolding at_quad
units_kept {a} {quad} {unit} few up fit fit-unit is =
    let bound = at_quad_lem {r = at_quad a quad} few up refl in
    let mags = mag_parts quad in
    kept (ap₂ ◌*ℤ◌ (to_z-of_z w64 a (fits_within few (omega arith))) (to_z-of_z w64 unit fit-unit ∙ is))
    (fits_parts (own (at_quad a quad)) (omega arith) (omega arith))
