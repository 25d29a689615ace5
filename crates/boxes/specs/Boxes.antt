-- What the rules see of a field and say of an item (document 01, "Fields"): sizes and places, and no node within a field.
-- Assumes nothing.
use Rattle.std.specs.Prelude.{List, [], ◌∷◌, ◌++◌, ℕ, ℤ, pos, ◌+ℤ◌, ◌-ℤ◌}
use Rattle.std.proofs.Math.Option.{Option, none, some}
use Rattle.scaled.specs.Length.{half}
use Rattle.font.specs.Font.{Metrics}

pub record Size : Type 0 where
  pub width : ℤ
  pub height : ℤ
  pub depth : ℤ

abbrev pub zero_size : Size
zero_size = record { width = pos 0; height = pos 0; depth = pos 0 }

-- a field: empty, a symbol that the font has, or a list that has been set
pub data Shape : Type 0 where
  nothing : Shape
  char : Metrics → Shape
  box : Size → Shape

-- a symbol with its italic correction in its width
abbrev pub char_size : Metrics → Size
char_size m = record { width = pos m.width +ℤ pos m.italic; height = pos m.height; depth = pos m.depth }

-- an absent delimiter is blank, with a width alone
abbrev pub null_delimiter_width : ℤ
null_delimiter_width = pos 78_643

abbrev pub blank_size : Size
blank_size = record { width = null_delimiter_width; height = pos 0; depth = pos 0 }

-- "Set box x to the so-and-so field" of Appendix G
abbrev pub size_of : Shape → Size
size_of nothing = zero_size
size_of (char m) = char_size m
size_of (box z) = z

-- a script that is there
abbrev pub given : Shape → Option Size
given nothing = none
given (char m) = some (char_size m)
given (box z) = some z

-- across to the right and up, from the item's reference point
pub record Offset : Type 0 where
  pub across : ℤ
  pub up : ℤ

abbrev pub at : ℤ → ℤ → Offset
at x y = record { across = x; up = y }

abbrev pub origin : Offset
origin = at (pos 0) (pos 0)

-- how far a superscript or numerator is shifted up, and a subscript or denominator down
pub record Shifts : Type 0 where
  pub up : ℤ
  pub down : ℤ

-- a line or a bar; `corner` is its lower left one
pub record Rule : Type 0 where
  pub corner : Offset
  pub width : ℤ
  pub thickness : ℤ

-- the symbol of a delimiter at its place, with the size in which it was found
pub record Glyph : Type 0 where
  pub place : Offset
  pub size : ℕ
  pub family : ℕ
  pub code : ℕ

pub data OwnNode : Type 0 where
  ruled : Rule → OwnNode
  signed : Glyph → OwnNode

-- an item's own nodes: some before its first field, some behind it
pub record Own : Type 0 where
  pub before : List OwnNode
  pub behind : List OwnNode

abbrev pub no_own : Own
no_own = record { before = []; behind = [] }

abbrev pub ruled_behind : Rule → Own
ruled_behind r = record { before = []; behind = ruled r ∷ [] }

-- a delimiter's symbol, if there is one, and a rule
abbrev pub signed_before : List OwnNode → Rule → Own
signed_before sign r = record { before = sign ++ (ruled r ∷ []); behind = [] }

-- a delimiter's symbol on either side, if there is one
abbrev pub signed_around : List OwnNode → List OwnNode → Own
signed_around left right = record { before = left; behind = right }

-- an item: its size, where its three fields stand, and its own nodes
pub record Arranged : Type 0 where
  pub size : Size
  pub first : Offset
  pub second : Offset
  pub third : Offset
  pub own : Own

-- how far a box of width w is moved right to stand in the middle of the width all
abbrev pub centred : ℤ → ℤ → ℤ
centred all w = half (all -ℤ w)
