-- The spaces of the worked examples P3 to P6 of document 01, on numbers alone. Their classes stand with the definition of them
-- (`classes_are` of specs/Classes.antt); here that a fence is Inner, whatever its delimiters are, and its space behind an Ord.
-- Assumes nothing.
use mathlib.Core.Path.{◌≡◌, refl}
use mathlib.Core.List.{List, [], ◌∷◌}
use mathlib.Core.Option.{some}
use lib.IntN.{ℤ, pos}
use Rattle.scaled.specs.Length.{at_quad}
use Rattle.formula.specs.declared.Class.TheVariants.{Ord, Bin, Rel, Inner}
use Rattle.formula.specs.declared.Delimiter.{Delimiter}
use Rattle.formula.specs.declared.Base.TheVariants.{Fence}
use Rattle.formula.specs.declared.Kind.TheVariants.{Scripted}
use Rattle.boxes.specs.declared.styles.Level.TheVariants.{Text, Script}
use Rattle.boxes.specs.Styles.{plain}
use Rattle.boxes.proofs.Bench.{bench}
use Rattle.spacing.specs.Classes.{class_of}
use Rattle.spacing.specs.Spacing.{row, chart, space_before}

-- the space before an atom behind its left neighbour
spaces : List ℤ
spaces =
    space_before bench (plain Text) (some Ord) Bin  -- P3
    ∷ space_before bench (plain Script) (some Ord) Bin  -- P4
    ∷ space_before bench (plain Text) (some Ord) Rel  -- P6
    ∷ []

spaces_are : spaces ≡ pos 220 ∷ pos 0 ∷ pos 275 ∷ []
unfolding spaces bench at_quad row chart space_before
spaces_are = refl

module _ (left right : Delimiter) where
  fence_is_inner : class_of (Scripted (Fence left right)) ≡ Inner
  fence_is_inner = refl

  behind_ord : space_before bench (plain Text) (some Ord) (class_of (Scripted (Fence left right))) ≡ pos 165
  unfolding bench at_quad row chart space_before
  behind_ord = refl
