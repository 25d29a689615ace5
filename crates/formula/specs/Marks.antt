-- The marks of the items (document 01, "Bytes of a formula"): a table, and a mark by its two letters.
-- Assumes nothing.
use Rattle.std.specs.Prelude.{true, false, ◌&&◌, List, [], ◌∷◌, ℕ, eqb}
use Rattle.formula.specs.declared.Mark.{Mark}
use Rattle.formula.specs.declared.Mark.TheVariants.{AT, OV, UN, FR, KN, ST, C4, RD, FE, Unknown}

-- two letters and the mark that they make
pub record Row : Type 0 where
  pub first : ℕ
  pub second : ℕ
  pub mark : Mark

abbrev row : ℕ → ℕ → Mark → Row
row first second mark = record { first = first; second = second; mark = mark }

-- the letters in ASCII
abbrev pub rows : List Row
rows =
    row 65 84 AT ∷ row 79 86 OV ∷ row 85 78 UN ∷ row 70 82 FR ∷ row 75 78 KN ∷ row 83 84 ST ∷ row 67 52 C4 ∷ row 82 68 RD
    ∷ row 70 69 FE ∷ []

-- the mark of the first row that has both letters
unfoldable pub mark_in : List Row → ℕ → ℕ → Mark
mark_in [] a b = Unknown
mark_in (r ∷ rs) a b = elim (eqb a r.first && eqb b r.second) [ true ↦ r.mark | false ↦ mark_in rs a b ]

unfoldable pub mark_of : ℕ → ℕ → Mark
mark_of a b = mark_in rows a b
