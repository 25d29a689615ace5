-- Laws of `specs/Made.antt`.
-- Assumes nothing.
use Rattle.std.specs.Prelude.{◌≡◌, Bool, true, false, cond, ◌+◌, ◌*◌, ◌/◌, ℤ, pos, negsuc}
use Rattle.std.specs.Ordering.{int_cmp, is_lt, ord_max, ord_min}
use Rattle.std.specs.Int.Signed.{lt_z}
use Rattle.std.proofs.Common.{refl, arith, le_refl, Less, Equal, Greater}
use Rattle.scaled.specs.Length.{at_quad, units_in_quad}
use Rattle.scaled.specs.Signed.{above, below, Within, NotNegative, own, parts_is, parts_same, within_times}
use Rattle.scaled.specs.Linear.{Exp, den, hi, lo, Ok}
use Rattle.scaled.proofs.Linear.{sound}
use Rattle.scaled.specs.Made.{Made, AtQuad, Greatest, Least, less}
use Rattle.scaled.specs.declared.Sp.{Sp}

module _ {e : Exp} {r : ℤ} where
  pub made : Ok e → r ≡ den e → Made e r
  made o is = record { is = is; parts = (parts_is is (sound e o)).parts }

  pub made_parts : Ok e × (above r + lo e ≡ hi e + below r) → Made e r
  made_parts o = record { is = parts_same (own r) (sound e o.0) o.1; parts = o.1 }

-- at most eighteen units are at most the quad
pub at_quad_lem : {a quad r : ℤ} → Within units_in_quad a → NotNegative quad → r ≡ at_quad a quad → AtQuad a quad r
unfolding at_quad
at_quad_lem {quad = pos q} {r} few up is =
    let unit = q / units_in_quad in
    let bound : Within (units_in_quad * unit) r = rw is (within_times few (le_refl unit)) in
    record { at = made (tt, tt) is; over = omega arith; under = omega arith }
at_quad_lem {quad = negsuc q} few up is = absurd (omega arith)

-- the derived order of lengths is that of ℤ
is_less : (a b : ℤ) → is_lt (int_cmp a b) ≡ lt_z a b
is_less a b = go (lt_z a b) (lt_z b a)
  where
    go : (t u : Bool) → is_lt (cond t Less (cond u Greater Equal)) ≡ t
    go true u = refl
    go false true = refl
    go false false = refl

-- the derived greater and lesser of two
pub greatest : {a b r : Sp} → r ≡ ord_max (λ a b. int_cmp a.0 b.0) a b → Greatest a.0 b.0 r.0
greatest {a} {b} e = rw e (go _ (is_less b.0 a.0))
  where
    go : (t : Bool) → t ≡ lt_z b.0 a.0 → Greatest a.0 b.0 (cond t a b).0
    go true e = made_parts (omega (arith, (less {a = b.0} {b = a.0} e).yes refl))
    go false e = made_parts (omega (arith, (less {a = b.0} {b = a.0} e).no refl))

pub least : {a b r : Sp} → r ≡ ord_min (λ a b. int_cmp a.0 b.0) a b → Least a.0 b.0 r.0
least {a} {b} e = rw e (go _ (is_less b.0 a.0))
  where
    go : (t : Bool) → t ≡ lt_z b.0 a.0 → Least a.0 b.0 (cond t b a).0
    go true e = made_parts (omega (arith, (less {a = b.0} {b = a.0} e).yes refl))
    go false e = made_parts (omega (arith, (less {a = b.0} {b = a.0} e).no refl))
