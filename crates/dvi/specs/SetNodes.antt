-- Which nodes of a setter can be written. Answer 6 keeps their x and y within the bound (`nodes_fit`); beyond that a node needs
--     Drawable               a glyph, that it is a symbol of a font table; a rule, that it is no wider than the bound, and no
--                            thinner than 0 and no thicker than the bound
-- and then the node bytes that a setter writes are a page's body (`set_written` in proofs/SetNodes.antt).
--     stored_node            a negative width is stored as 0
--     drawable_append, drawable_moved     for nodes that are put together and moved, as the rules do
-- Assumes nothing.
use Rattle.std.specs.Prelude.{List, [], ◌∷◌, ◌++◌, ◌+◌, ◌≤◌, ℤ, pos}
use Rattle.scaled.specs.Length.{max_ℤ}
use Rattle.scaled.specs.Signed.{above, below}
use Rattle.nodes.specs.Nodes.{Node, glyph, rule, moved}
use Rattle.nodes.specs.Bounds.{greatest_length}
use Rattle.dvi.specs.Profile.{greatest_size, greatest_family, greatest_byte}
use Rattle.dvi.specs.ProfileLaws.{Extent}

abbrev pub Drawable : Node → Type 0
Drawable (glyph x y size family code) = (size ≤ greatest_size) × (family ≤ greatest_family) × (code ≤ greatest_byte)
Drawable (rule x y width thickness) = (above width ≤ below width + greatest_length) × Extent thickness

abbrev pub AllDrawable : List Node → Type 0
AllDrawable [] = Unit {0}
AllDrawable (n ∷ ns) = Drawable n × AllDrawable ns

pub drawable_append : (ms ns : List Node) → AllDrawable ms → AllDrawable ns → AllDrawable (ms ++ ns)
drawable_append [] ns d e = e
drawable_append (m ∷ ms) ns d e = (d.0, drawable_append ms ns d.1 e)

pub drawable_moved : (dx dy : ℤ) (ns : List Node) → AllDrawable ns → AllDrawable (moved dx dy ns)
unfolding moved
drawable_moved dx dy [] d = tt
drawable_moved dx dy (glyph x y size family code ∷ ns) d = (d.0, drawable_moved dx dy ns d.1)
drawable_moved dx dy (rule x y width thickness ∷ ns) d = (d.0, drawable_moved dx dy ns d.1)

-- ---- as a node is stored

abbrev pub stored_node : Node → Node
stored_node (glyph x y size family code) = glyph x y size family code
stored_node (rule x y width thickness) = rule x y (max_ℤ (pos 0) width) thickness
