-- A text that is too long for a formula, by computation: 121 groups of 121 words mean 132,858 bytes, and a formula has at most 131,072.
-- Assumes nothing.
use Rattle.std.specs.Prelude.{◌≡◌, refl, List, [], ◌++◌, ℕ, zero, suc}
use Rattle.results.specs.Results.{refused}
use Rattle.eqn_meaning.specs.Answers.{too_large, read_result}
use Rattle.eqn_meaning.specs.Examples.{definitions, typed, table}

abbrev pub repeated : ℕ → List ℕ → List ℕ
repeated zero s = []
repeated (suc n) s = s ++ repeated n s

pub long_refused : read_result table (repeated 121 (typed "{ " ++ repeated 121 (typed "x ") ++ typed "}")) ≡ refused too_large 0
unfolding definitions
long_refused = refl
