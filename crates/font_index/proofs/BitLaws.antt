-- The bits of a row of codes, as a lookup reads them.
--     present_in      how many of some codes are present
--     bit_at         the bit of a code
--     bits_below     what is left below a bit: the bits of the codes before
--     ones_bits      the ones, one for each code that is present
--     masked_ones, ones_few     the ones of a word below a bit, as the code counts them
-- Assumes nothing.
use mathlib.Core.Path.{◌≡◌, refl, sym, ap, ap₂, ◌∙◌}
use mathlib.Core.Bool.{Bool}
use Prim.Native.Nat.{ℕ, zero, suc, ◌+◌, ◌-◌, ◌*◌, ◌/◌, ◌%◌, ◌^◌, ◌<◌, ◌≤◌}
use native.Mathlib.Omega.{arith}
use lib.Bits.{bit_and, and_mask, and_le_l}
use lib.Count.{ones, ones_step, ones-le}
use lib.Pow.{pow_pos, shr-shr, mod-pow-add}
use Rattle.font_index.specs.Index.{one, bits, ones_below}
use Rattle.font_index.specs.BitLaws.{half, odd, mask_is}

-- how many of n codes are present
unfoldable pub present_in : (ℕ → Bool) → ℕ → ℕ → ℕ
present_in P first zero = 0
present_in P first (suc n) = one (P first) + present_in P (suc first) n

module _ (P : ℕ → Bool) where
  pub bit_at : (first n b : ℕ) → b < n → bits P first n / 2 ^ b % 2 ≡ one (P (first + b))
  bit_at first zero b h = absurd (omega arith)
  bit_at first (suc n) zero h =
      let whole : bits P first (suc n) / 2 ^ 0 ≡ bits P first (suc n) = omega arith in
      let here : first + 0 ≡ first = omega arith in
      ap (λ (w : ℕ). w % 2) whole ∙ odd P first n ∙ ap (λ (c : ℕ). one (P c)) (sym here)
  bit_at first (suc n) (suc b) h =
      let on : 1 + b ≡ suc b = omega arith in
      let there : suc first + b ≡ first + suc b = omega arith in
      ap (λ (k : ℕ). bits P first (suc n) / 2 ^ k % 2) (sym on)
      ∙ ap (λ (w : ℕ). w % 2) (sym (shr-shr (bits P first (suc n)) 1 b))
      ∙ ap (λ (w : ℕ). w / 2 ^ b % 2) (half P first n)
      ∙ bit_at (suc first) n b (omega arith)
      ∙ ap (λ (c : ℕ). one (P c)) there

  pub bits_below : (first n b : ℕ) → b ≤ n → bits P first n % 2 ^ b ≡ bits P first b
  unfolding bits
  bits_below first n zero h = omega arith
  bits_below first zero (suc b) h = absurd (omega arith)
  bits_below first (suc n) (suc b) h =
      let on : b + 1 ≡ suc b = omega arith in
      let rest : bits P first (suc n) / 2 % 2 ^ b ≡ bits P (suc first) b = ap (λ (w : ℕ). w % 2 ^ b) (half P first n) ∙ bits_below (suc first) n b (omega arith) in
      let split = mod-pow-add (bits P first (suc n)) b 1 in
      let low = odd P first n in
      ap (λ (k : ℕ). bits P first (suc n) % 2 ^ k) (sym on) ∙ split ∙ omega (arith, rest, low)

  pub ones_bits : (first n : ℕ) → ones (bits P first n) ≡ present_in P first n
  unfolding bits ones present_in
  ones_bits first zero = refl
  ones_bits first (suc n) =
      ones_step (bits P first (suc n)) ∙ ap₂ (λ (a b : ℕ). a + b) (odd P first n) (ap ones (half P first n) ∙ ones_bits (suc first) n)

-- ---- as the code has it

pub mask_positive : (b : ℕ) → b < 64 → 1 ≤ 1 * 2 ^ b % 2 ^ 64
mask_positive b h = omega (arith, mask_is b h, pow_pos b)

pub masked_ones : (w b : ℕ) → b < 64 → ones (bit_and w (1 * 2 ^ b % 2 ^ 64 - 1)) ≡ ones_below w b
masked_ones w b h = ap (λ (m : ℕ). ones (bit_and w (m - 1))) (mask_is b h) ∙ ap ones (and_mask w b)

pub ones_few : (w m : ℕ) → w < 2 ^ 64 → ones (bit_and w m) ≤ 64
ones_few w m h = ones-le 64 (bit_and w m) (omega (arith, and_le_l w m))
