-- Which nodes can be written (request 14): those of document 01's form whose lengths are within answer 6's bound.
-- Assumes nothing.
use Rattle.std.specs.Prelude.{Bool, true, ◌&&◌, List, [], ◌∷◌, ℕ, leb, ℤ, pos}
use Rattle.std.specs.Int.Signed.{le_z}
use Rattle.nodes.specs.Nodes.{Node, glyph, rule}
use Rattle.nodes.specs.Bounds.{greatest_length, node_fits}

abbrev pub greatest_size : ℕ
greatest_size = 2

abbrev pub greatest_family : ℕ
greatest_family = 15

abbrev pub greatest_byte : ℕ
greatest_byte = 255

-- a width or a thickness
abbrev pub is_extent : ℤ → Bool
is_extent z = le_z (pos 0) z && le_z z (pos greatest_length)

abbrev pub well_formed : Node → Bool
well_formed (glyph x y size family code) = leb size greatest_size && leb family greatest_family && leb code greatest_byte
well_formed (rule x y width thickness) = is_extent width && is_extent thickness

unfoldable pub writable : Node → Bool
writable n = node_fits n && well_formed n

unfoldable pub all_writable : List Node → Bool
all_writable [] = true
all_writable (n ∷ ns) = writable n && all_writable ns
