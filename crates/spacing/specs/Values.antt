-- What the values of the code stand for in the definitions: a neighbour, and an entry of the table of spaces.
-- Assumes nothing.
use Rattle.std.specs.Prelude.{true, false, ◌≡◌, ℕ, ◌/◌, ◌%◌, ◌<◌, Option, Some, None}
use Rattle.std.proofs.Math.Option.{none, some}
use Rattle.formula.specs.declared.Class.{Class}
use Rattle.spacing.specs.Classes.{Neighbour}
use Rattle.spacing.specs.Spacing.{Entry, units}

abbrev pub neighbour_as : Option Class → Neighbour
neighbour_as None = none
neighbour_as (Some class) = some class

-- the two digits of a number in the table of spaces: the units in the styles D to T', and in the script styles
pub record Digits (x : ℕ) (e : Entry) : Type 0 where
  pub tens : x / 10 ≡ units true e
  pub ones : x % 10 ≡ units false e
  pub small : x < 60
