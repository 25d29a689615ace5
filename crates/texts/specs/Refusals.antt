-- The line of a refusal, as `refused 5 at 4`, which every program writes alike, and the line of what a program cannot hold, as
-- `too long: 131072 bytes are taken`.
-- Assumes nothing.
use Rattle.std.specs.Prelude.{List, [], ◌∷◌, ◌++◌, ℕ}
use Rattle.texts.specs.Decimals.{decimal_of}

abbrev pub newline : List ℕ
newline = 10 ∷ []

abbrev pub space : List ℕ
space = 32 ∷ []

-- `refused ` and ` at `
abbrev pub refused_mark : List ℕ
refused_mark = 114 ∷ 101 ∷ 102 ∷ 117 ∷ 115 ∷ 101 ∷ 100 ∷ 32 ∷ []

abbrev pub at_mark : List ℕ
at_mark = 32 ∷ 97 ∷ 116 ∷ 32 ∷ []

abbrev pub refusal_text : ℕ → ℕ → List ℕ
refusal_text number place = refused_mark ++ decimal_of number ++ (at_mark ++ decimal_of place) ++ newline

-- `too long: ` and ` bytes are taken`
abbrev pub too_long_mark : List ℕ
too_long_mark = 116 ∷ 111 ∷ 111 ∷ 32 ∷ 108 ∷ 111 ∷ 110 ∷ 103 ∷ 58 ∷ 32 ∷ []

abbrev pub taken_mark : List ℕ
taken_mark = 32 ∷ 98 ∷ 121 ∷ 116 ∷ 101 ∷ 115 ∷ 32 ∷ 97 ∷ 114 ∷ 101 ∷ 32 ∷ 116 ∷ 97 ∷ 107 ∷ 101 ∷ 110 ∷ []

abbrev pub too_long_text : ℕ → List ℕ
too_long_text taken = too_long_mark ++ decimal_of taken ++ (taken_mark ++ newline)
