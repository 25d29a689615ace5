-- The bits of a row of codes, as one number.
--     half, odd    what is left of it past its first bit, and that bit
--     mask_is      one bit, as the code shifts it
-- Assumes nothing.
use Rattle.std.specs.Prelude.{◌≡◌, Bool, true, false, ℕ, suc, ◌*◌, ◌/◌, ◌%◌, ◌^◌, ◌<◌}
use Rattle.std.proofs.Common.{◌∙◌, one-mul, lit<, shl_exact}
use native.Mathlib.Omega.{arith}
use Rattle.font_index.specs.Index.{one, bits}

one_lt : (b : Bool) → one b < 2
one_lt true = omega arith
one_lt false = omega arith

module _ (P : ℕ → Bool) where
  pub half : (first n : ℕ) → bits P first (suc n) / 2 ≡ bits P (suc first) n
  unfolding bits
  half first n = let h = one_lt (P first) in omega arith

  pub odd : (first n : ℕ) → bits P first (suc n) % 2 ≡ one (P first)
  unfolding bits
  odd first n = let h = one_lt (P first) in omega arith

pub mask_is : (b : ℕ) → b < 64 → 1 * 2 ^ b % 2 ^ 64 ≡ 2 ^ b
mask_is b h = shl_exact 1 b 64 (lit< tt) (omega arith) ∙ one-mul (2 ^ b)
