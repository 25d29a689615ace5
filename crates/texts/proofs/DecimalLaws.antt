-- The digits that `io::decimal` writes are the defined ones: `decimal_is`; there are at most 20: `within`. Assumes nothing.
use Prim.Native.Nat.{ℕ, zero, suc, ◌-◌, ◌/◌, ◌%◌, ◌^◌, ◌≤◌, ◌<◌}
use mathlib.Core.Path.{◌≡◌, ap, ◌∙◌}
use mathlib.Core.List.{List, [], ◌∷◌, ◌++◌}
use native.Mathlib.Omega.{arith}
use native.Mathlib.Nat.{pow-suc, pow-le-pow_right, lt_of_not-le}
use borrow.Author.Tests.{lt-ltb, le-ltb}
use Rattle.io.specs.Digits.{last_digits, hex_digit_ascii, IsDigitCount}
use Rattle.texts.specs.Decimals.{digits_by, decimal_of}

tens : (k : ℕ) → 1 ≤ 10 ^ k
tens zero = omega arith
tens (suc k) = omega (arith, pow-suc 10 k, tens k)

-- by recursion on how many digits there are
fewest : (f k n : ℕ) → k ≤ f → IsDigitCount 10 1 n k → last_digits 10 k n ≡ digits_by f n
unfolding digits_by
fewest zero k n h w = absurd (omega (arith, w.0))
fewest (suc f) zero n h w = absurd (omega (arith, w.0))
fewest (suc f) (suc zero) n h w =
    let a : n < 10 = w.1 in
    let m : n % 10 ≡ n = omega arith in
    simp (m, lt-ltb n 10 a)
fewest (suc f) (suc (suc k)) n h w =
    let one : suc (suc k) - 1 ≡ suc k = omega arith in
    let less : suc k - 1 ≡ k = omega arith in
    let low : 10 ^ suc k ≤ n = rw one at (w.2 (omega arith)) in
    let p = pow-suc 10 k in
    let q = pow-suc 10 (suc k) in
    let t = tens k in
    let rest : last_digits 10 (suc k) (n / 10) ≡ digits_by f (n / 10) =
    fewest f (suc k) (n / 10) (omega arith) (omega arith, omega (arith, w.1), λ _. rw less (omega arith)) in
    let big : 10 ≤ n = omega arith in
    let d : n % 10 < 10 = omega arith in
    ap (λ (l : List ℕ). l ++ (hex_digit_ascii (n % 10) ∷ [])) rest ∙ simp (lt-ltb (n % 10) 10 d, le-ltb n 10 big)

-- a number of 64 bits takes at most 20 digits
pub within : (k n : ℕ) → n < 2 ^ 64 → IsDigitCount 10 1 n k → k ≤ 20
within k n h w =
    let small : k < 21 = lt_of_not-le (not_more k n h w) in omega arith
  where
    not_more : (k n : ℕ) → n < 2 ^ 64 → IsDigitCount 10 1 n k → 21 ≤ k → ⊥
    not_more k n h w g =
        let low : 10 ^ (k - 1) ≤ n = w.2 (omega arith) in
        let ten : 10 ^ 20 ≤ 10 ^ (k - 1) = let le : 20 ≤ k - 1 = omega arith in let pos : 0 < 10 = omega arith in pow-le-pow_right pos le in
        omega arith

pub decimal_is : (k n : ℕ) → n < 2 ^ 64 → IsDigitCount 10 1 n k → last_digits 10 k n ≡ decimal_of n
unfolding decimal_of
decimal_is k n h w = fewest 20 k n (within k n h w) w
