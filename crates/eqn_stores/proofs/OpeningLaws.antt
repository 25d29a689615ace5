-- The bytes of a list's opening, short and long. Assumes nothing.
use mathlib.Core.Path.{◌≡◌}
use mathlib.Core.List.{[], ◌∷◌}
use Prim.Native.Nat.{ℕ, ◌/◌, ◌%◌, ◌<◌, ◌≤◌}
use native.Mathlib.Omega.{arith}
use borrow.Author.Tests.{le-leb, lt-leb}
use Rattle.words.specs.Words.{four_bytes}
use Rattle.formula.specs.Tree.{greatest_short}
use Rattle.formula.specs.Format.{formula_limit}
use Rattle.formula_spelling.specs.Spelling.{list_opening}

pub opening_short : (n : ℕ) → n ≤ greatest_short → list_opening n ≡ 2 ∷ n % 256 ∷ n / 256 % 256 ∷ []
unfolding list_opening
opening_short n short = let high : n / 256 % 256 ≡ n / 256 = omega arith in rw (le-leb n greatest_short short, high, list_opening)

pub opening_long : (n : ℕ) → greatest_short < n → n ≤ formula_limit →
    list_opening n ≡ 3 ∷ n % 256 ∷ n / 256 % 256 ∷ n / 65_536 ∷ 0 ∷ []
unfolding list_opening four_bytes
opening_long n long most =
    let third : n / 65_536 % 256 ≡ n / 65_536 = omega arith in
    let fourth : n / 16_777_216 % 256 ≡ 0 = omega arith in
    rw (lt-leb n greatest_short long, third, fourth, list_opening)
