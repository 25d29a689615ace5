-- The space between two atoms (document 01, "Spacing"; rule 20 of Appendix G).
-- Assumes nothing.
use Rattle.std.specs.Prelude.{Bool, true, false, List, [], ◌∷◌, ℕ, ℤ, pos, get_or}
use Rattle.std.proofs.Math.Option.{none, some}
use Rattle.scaled.specs.Length.{at_quad}
use Rattle.formula.specs.declared.Class.{Class}
use Rattle.formula.specs.declared.Class.TheVariants.{Ord, Op, Bin, Rel, Open, Close, Punct, Inner}
use Rattle.formula.specs.Heads.{class_number}
use Rattle.boxes.specs.declared.styles.Style.{Style}
use Rattle.boxes.specs.Styles.{is_large, font_size}
use Rattle.spacing.specs.Classes.{Neighbour}
use Rattle.boxes.specs.Parameters.{Parameters, quad}

-- An entry of the chart, written as there: 1, 2 and 3 are a thin, a medium and a thick space; in brackets only in the
-- styles 0 to 3; with a star the two classes can't meet.
pub data Entry : Type 0 where
  ·0· ·1· [1] [2] [3] ·*· : Entry

-- by the left class; the right one goes from Ord, Op, Bin, Rel, Open, Close, Punct to Inner
unfoldable pub row : Class → List Entry
row Ord = ·0· ∷ ·1· ∷ [2] ∷ [3] ∷ ·0· ∷ ·0· ∷ ·0· ∷ [1] ∷ []
row Op = ·1· ∷ ·1· ∷ ·*· ∷ [3] ∷ ·0· ∷ ·0· ∷ ·0· ∷ [1] ∷ []
row Bin = [2] ∷ [2] ∷ ·*· ∷ ·*· ∷ [2] ∷ ·*· ∷ ·*· ∷ [2] ∷ []
row Rel = [3] ∷ [3] ∷ ·*· ∷ ·0· ∷ [3] ∷ ·0· ∷ ·0· ∷ [3] ∷ []
row Open = ·0· ∷ ·0· ∷ ·*· ∷ ·0· ∷ ·0· ∷ ·0· ∷ ·0· ∷ ·0· ∷ []
row Close = ·0· ∷ ·1· ∷ [2] ∷ [3] ∷ ·0· ∷ ·0· ∷ ·0· ∷ [1] ∷ []
row Punct = [1] ∷ [1] ∷ ·*· ∷ [1] ∷ [1] ∷ [1] ∷ [1] ∷ [1] ∷ []
row Inner = [1] ∷ ·1· ∷ [2] ∷ [3] ∷ [1] ∷ ·0· ∷ [1] ∷ [1] ∷ []

unfoldable pub chart : Class → Class → Entry
chart left right = get_or (row left) (class_number right) ·*·

-- thin, medium and thick spaces, in math units
abbrev pub thin_units : ℕ
thin_units = 3

abbrev pub med_units : ℕ
med_units = 4

abbrev pub thick_units : ℕ
thick_units = 5

abbrev pub if_large : Bool → ℕ → ℕ
if_large true units = units
if_large false units = 0

abbrev pub units : Bool → Entry → ℕ
units large ·0· = 0
units large ·1· = thin_units
units large [1] = if_large large thin_units
units large [2] = if_large large med_units
units large [3] = if_large large thick_units
units large ·*· = 0

-- the space before an atom of class right, in scaled points: none before the first
unfoldable pub space_before : Parameters → Style → Neighbour → Class → ℤ
space_before p s none right = pos 0
space_before p s (some left) right = at_quad (pos (units (is_large s.level) (chart left right))) (quad p (font_size s))
