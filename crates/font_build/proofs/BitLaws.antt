-- The bits of a row of codes, as they are set.
--     bits_same     the bits of the same codes
--     bits_with     a bit is set: the codes with one more
-- Assumes nothing.
use mathlib.Core.Path.{◌≡◌, refl, sym, ap, ap₂, ◌∙◌}
use mathlib.Core.Bool.{Bool, true, false, ◌||◌}
use Prim.Native.Nat.{ℕ, zero, suc, ◌+◌, ◌*◌, ◌/◌, ◌%◌, ◌^◌, ◌<◌, ◌≤◌, max}
use native.Mathlib.Omega.{arith}
use lib.Bits.{bit_or, or_step, or_zero_r}
use lib.Dec.{eqb}
use borrow.Author.Tests.{eq-eqb, ne_eqb}
use Rattle.font_index.specs.Index.{one, bits}
use Rattle.font_index.specs.BitLaws.{half, odd}

with_one : (b : Bool) → max (one b) 1 ≡ 1
with_one true = refl
with_one false = refl

with_none : (b : Bool) → max (one b) 0 ≡ one b
with_none true = refl
with_none false = refl

module _ (P : ℕ → Bool) where
  -- none of the codes from the first on is new
  pub bits_same : (Q : ℕ → Bool) (first n : ℕ) → ((c : ℕ) → first ≤ c → c < first + n → Q c ≡ P c) → bits Q first n ≡ bits P first n
  unfolding bits
  bits_same Q first zero same = refl
  bits_same Q first (suc n) same =
      let here = same first (omega arith) (omega arith) in
      let rest = bits_same Q (suc first) n (λ c h k. same c (omega arith) (omega arith)) in
      ap₂ (λ (b : Bool) (w : ℕ). one b + 2 * w) here rest

  -- with the code of bit b
  pub bits_with : (Q : ℕ → Bool) (first n b : ℕ) → b < n →
      ((c : ℕ) → first ≤ c → c < first + n → Q c ≡ (eqb (first + b) c || P c)) →
      bit_or (bits P first n) (2 ^ b) ≡ bits Q first n
  unfolding bits
  bits_with Q first zero b h is = absurd (omega arith)
  bits_with Q first (suc n) zero h is =
      let w = bits P first (suc n) in
      let here : one (Q first) ≡ 1 = ap one (is first (omega arith) (omega arith) ∙ ap (λ (t : Bool). t || P first) (eq-eqb (first + 0) first (omega arith))) in
      let behind : bits Q (suc first) n ≡ bits P (suc first) n =
      bits_same Q (suc first) n
      (λ c g k. is c (omega arith) (omega arith) ∙ ap (λ (t : Bool). t || P c) (ne_eqb (first + 0) c (λ (e : first + 0 ≡ c). omega arith))) in
      or_step w 1
      ∙ ap₂ (λ (x y : ℕ). x * 2 + y) (or_zero_r (w / 2) ∙ half P first n ∙ sym behind) (ap (λ (x : ℕ). max x 1) (odd P first n) ∙ with_one (P first))
      ∙ omega (arith, here)
  bits_with Q first (suc n) (suc b) h is =
      let w = bits P first (suc n) in
      let there : first + suc b ≡ suc first + b = omega arith in
      let here : one (Q first) ≡ one (P first) =
      ap one (is first (omega arith) (omega arith) ∙ ap (λ (t : Bool). t || P first) (ne_eqb (first + suc b) first (λ (e : first + suc b ≡ first). omega arith))) in
      let behind = bits_with Q (suc first) n b (omega arith) (λ c g k. is c (omega arith) (omega arith) ∙ ap (λ (d : ℕ). eqb d c || P c) there) in
      let low : 2 ^ suc b / 2 ≡ 2 ^ b = omega arith in
      let even : 2 ^ suc b % 2 ≡ 0 = omega arith in
      or_step w (2 ^ suc b)
      ∙ ap₂ (λ (x y : ℕ). x * 2 + y) (ap₂ bit_or (half P first n) low ∙ behind) (ap₂ max (odd P first n) even ∙ with_none (P first))
      ∙ omega (arith, here)
