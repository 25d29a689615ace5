-- Nodes and their bytes (document 01, "Nodes").
-- Assumes nothing.
use Rattle.std.specs.Prelude.{List, [], ◌∷◌, ◌++◌, ℕ, ℤ, pos, ◌+ℤ◌}
use Rattle.scaled.specs.Length.{max_ℤ}
use Rattle.words.specs.Words.{word_of, four_bytes}

-- x and y from the reference point of the list, y upward
pub data Node : Type 0 where
  glyph : ℤ → ℤ → ℕ → ℕ → ℕ → Node  -- x, y, size, family, code
  rule : ℤ → ℤ → ℤ → ℤ → Node  -- x, y of the lower left corner, width, thickness

-- moved right by dx and up by dy
abbrev pub moved_node : ℤ → ℤ → Node → Node
moved_node dx dy (glyph x y size family code) = glyph (x +ℤ dx) (y +ℤ dy) size family code
moved_node dx dy (rule x y width thickness) = rule (x +ℤ dx) (y +ℤ dy) width thickness

unfoldable pub moved : ℤ → ℤ → List Node → List Node
moved dx dy [] = []
moved dx dy (n ∷ ns) = moved_node dx dy n ∷ moved dx dy ns

abbrev pub bytes_in_node : ℕ
bytes_in_node = 18

-- a number as a signed word
unfoldable pub signed_bytes : ℤ → List ℕ
signed_bytes z = four_bytes (word_of z)

-- G, L and R, U; a negative width is written as 0
unfoldable pub node_bytes : Node → List ℕ
node_bytes (glyph x y size family code) =
    71 ∷ 76 ∷ (signed_bytes x ++ signed_bytes y) ++ (size ∷ family ∷ code ∷ 0 ∷ 0 ∷ 0 ∷ 0 ∷ 0 ∷ [])
node_bytes (rule x y width thickness) =
    82 ∷ 85 ∷ (signed_bytes x ++ signed_bytes y) ++ (signed_bytes (max_ℤ (pos 0) width) ++ signed_bytes thickness)

unfoldable pub bytes_of : List Node → List ℕ
bytes_of [] = []
bytes_of (n ∷ ns) = node_bytes n ++ bytes_of ns
