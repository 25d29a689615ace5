-- How far a length may go (document 01, answer 6).
-- Assumes nothing.
use Rattle.std.specs.Prelude.{Bool, true, ◌&&◌, List, [], ◌∷◌, ℕ, leb, ℤ, nat_abs}
use Rattle.nodes.specs.Nodes.{Node, glyph, rule}

abbrev pub greatest_length : ℕ
greatest_length = 1_073_741_823

abbrev pub within : ℤ → Bool
within z = leb (nat_abs z) greatest_length

-- a node's x and y; a rule's width and thickness don't count
abbrev pub node_fits : Node → Bool
node_fits (glyph x y size family code) = within x && within y
node_fits (rule x y width thickness) = within x && within y

unfoldable pub nodes_fit : List Node → Bool
nodes_fit [] = true
nodes_fit (n ∷ ns) = node_fits n && nodes_fit ns
