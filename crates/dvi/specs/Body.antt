-- Nodes as the body of a page (request 14).
--     commands_of n      the commands of a node: y is counted upward, and DVI goes down
--     body_bytes n       their bytes, and `body_of` those of some nodes
-- Assumes nothing.
use Rattle.std.specs.Prelude.{List, [], ◌∷◌, ◌++◌, ℕ, ◌+◌, ◌*◌, ℤ, neg_ℤ}
use Rattle.nodes.specs.Nodes.{Node, glyph, rule}
use Rattle.dvi.specs.Commands.{Command, fnt_num, push, pop, right4, down4, set1, set_rule, commands_bytes}

-- to the node's place
abbrev pub place_commands : ℤ → ℤ → List Command
place_commands x y = push ∷ right4 x ∷ down4 (neg_ℤ y) ∷ []

unfoldable pub commands_of : Node → List Command
commands_of (glyph x y size family code) = fnt_num (16 * size + family) ∷ (place_commands x y ++ (set1 code ∷ pop ∷ []))
commands_of (rule x y width thickness) = place_commands x y ++ (set_rule thickness width ∷ pop ∷ [])

unfoldable pub body_bytes : Node → List ℕ
body_bytes n = commands_bytes (commands_of n)

-- how many there are for each kind of node
abbrev pub bytes_in_glyph : ℕ
bytes_in_glyph = 15

abbrev pub bytes_in_rule : ℕ
bytes_in_rule = 21

unfoldable pub body_of : List Node → List ℕ
body_of [] = []
body_of (n ∷ ns) = body_bytes n ++ body_of ns
