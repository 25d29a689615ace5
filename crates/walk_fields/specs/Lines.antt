-- What the functions ask and promise by which a line grows, in terms of the definition.
-- Assumes nothing.
use Rattle.std.specs.Prelude.{◌≡◌, Some, ◌+◌, ◌^◌, ◌<◌, ℤ, ◌+ℤ◌}
use Rattle.std.proofs.Math.Option.{none, some}
use Rattle.scaled.specs.Length.{max_ℤ}
use Rattle.scaled.specs.Signed.{Within}
use Rattle.formula.specs.declared.Class.{Class}
use Rattle.boxes.specs.declared.styles.Style.{Style}
use Rattle.boxes.specs.declared.Size.{Size as CodeSize}
use Rattle.boxes.specs.Parameters.{Parameters}
use Rattle.spacing.specs.Classes.{Neighbour}
use Rattle.spacing.specs.Spacing.{space_before}
use Rattle.boxes.specs.Boxes.{Size, zero_size}
use Rattle.boxes.specs.Values.{size_as}
use Rattle.spacing.specs.Values.{neighbour_as}
use Rattle.boxes.specs.Bounds.{words, item_words}
use Rattle.nodes.specs.declared.run.Run.{Run}
use Rattle.nodes.specs.Values.{EmptyRun, JoinedRun}
use Rattle.walk_fields.specs.declared.lines.Line as lines

pub record StartLine (left : Neighbour) (s : Style) (c : lines.Line) : Type 0 where
  pub left_is : neighbour_as c.left ≡ left
  pub style_is : c.style ≡ s
  pub size_is : size_as c.size ≡ zero_size
  pub run_is : EmptyRun c.run

-- a size that is wider by n
abbrev pub widened : ℤ → Size → Size
widened n z = record { width = z.width +ℤ n; height = z.height; depth = z.depth }

-- a line with a kern behind it
pub record KernedLine (l : lines.Line) (n : ℤ) (c : lines.Line) : Type 0 where
  pub left_is : c.left ≡ l.left
  pub style_is : c.style ≡ l.style
  pub size_is : size_as c.size ≡ widened n (size_as l.size)
  pub run_is : c.run ≡ l.run

-- the size of a whole list that sees a neighbour on its right, behind a last atom: the space before it is the list's
abbrev pub closed_size : Parameters → Style → Neighbour → Neighbour → Size → Size
closed_size P s none left z = z
closed_size P s (some class) left z = widened (space_before P s left class) z

pub record ClosedLine (P : Parameters) (s : Style) (right : Neighbour) (l c : lines.Line) : Type 0 where
  pub left_is : c.left ≡ l.left
  pub style_is : c.style ≡ l.style
  pub size_is : size_as c.size ≡ closed_size P s right (neighbour_as l.left) (size_as l.size)
  pub run_is : c.run ≡ l.run

-- a line with another style from there on
pub record StyledLine (l : lines.Line) (s : Style) (c : lines.Line) : Type 0 where
  pub left_is : c.left ≡ l.left
  pub style_is : c.style ≡ s
  pub size_is : c.size ≡ l.size
  pub run_is : c.run ≡ l.run

-- the size a, and b at x
abbrev pub beside_size : ℤ → Size → Size → Size
beside_size x a b =
    record { width = x +ℤ b.width; height = max_ℤ a.height b.height; depth = max_ℤ a.depth b.depth }

pub record SizesGo (x : ℤ) (b : CodeSize) : Type 0 where
  pub x_small : Within (2 ^ 54) x
  pub width : Within (words item_words) b.width.0

abbrev pub SizesBeside : CodeSize → ℤ → CodeSize → CodeSize → Type 0
SizesBeside a x b r = size_as r ≡ beside_size x (size_as a) (size_as b)

-- an item that is to go behind a line, at x
pub record ItemGoes (l : lines.Line) (x : ℤ) (z : CodeSize) (r : Run) : Type 0 where
  pub sizes : SizesGo x z
  pub few : l.run.count + r.count < 2 ^ 64

pub record ExtendedLine (l : lines.Line) (class : Class) (x : ℤ) (z : CodeSize) (r : Run) (c : lines.Line) : Type 0 where
  pub left_is : c.left ≡ Some class
  pub style_is : c.style ≡ l.style
  pub size_is : SizesBeside l.size x z c.size
  pub run_is : JoinedRun l.run r c.run
