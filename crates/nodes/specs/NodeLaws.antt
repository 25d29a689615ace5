-- Laws of nodes and of their bytes.
--     signed_sum                              a length is added to the bytes of another, modulo 2 ^ 32
--     length_node_bytes, length_bytes, bytes_append     how many bytes nodes have, and those of two runs
--     length_moved, moved_append, moved_twice, moved_nowhere     moved runs of nodes
-- Assumes nothing.
use Rattle.std.specs.Prelude.{◌≡◌, refl, List, [], ◌∷◌, ◌++◌, ℕ, suc, ◌+◌, ◌*◌, ℤ, pos, ◌+ℤ◌, length}
use Rattle.std.proofs.Common.{sym, ap, ◌∙◌, append_assoc, arith, length-append}
use Rattle.std.proofs.Math.IntN.{+ℤ_assoc, +ℤ_idr}
use Rattle.words.specs.Words.{little_endian, word_of, four_bytes}
use Rattle.words.specs.WordLaws.{word_below, word_sum, four_back, four_rest}
use Rattle.nodes.specs.Nodes.{Node, glyph, rule, moved_node, moved, bytes_in_node, signed_bytes, node_bytes, bytes_of}

-- ---- a number as a word

-- a number's bytes, with the word of d added to them
pub signed_sum : (x d : ℤ) (s : List ℕ) → four_bytes (little_endian 4 (signed_bytes x ++ s) + word_of d) ≡ signed_bytes (x +ℤ d)
unfolding signed_bytes
signed_sum x d s =
    rw (four_back (word_of x) s (word_below x)) (sym (four_rest (word_of x + word_of d)) ∙ ap four_bytes (word_sum x d))

-- ---- the bytes of nodes

pub length_node_bytes : (n : Node) → length (node_bytes n) ≡ bytes_in_node
unfolding node_bytes signed_bytes four_bytes
length_node_bytes (glyph x y size family code) = refl
length_node_bytes (rule x y width thickness) = refl

pub length_bytes : (ns : List Node) → length (bytes_of ns) ≡ bytes_in_node * length ns
unfolding bytes_of
length_bytes [] = refl
length_bytes (n ∷ ns) =
    omega (arith, length-append (node_bytes n) (bytes_of ns), length_node_bytes n, length_bytes ns)

pub bytes_append : (ms ns : List Node) → bytes_of (ms ++ ns) ≡ bytes_of ms ++ bytes_of ns
unfolding bytes_of
bytes_append [] ns = refl
bytes_append (m ∷ ms) ns = rw (bytes_append ms ns) (sym (append_assoc (node_bytes m) (bytes_of ms) (bytes_of ns)))

-- ---- moved nodes

pub length_moved : (dx dy : ℤ) (ns : List Node) → length (moved dx dy ns) ≡ length ns
unfolding moved
length_moved dx dy [] = refl
length_moved dx dy (n ∷ ns) = ap suc (length_moved dx dy ns)

pub moved_append : (dx dy : ℤ) (ms ns : List Node) → moved dx dy (ms ++ ns) ≡ moved dx dy ms ++ moved dx dy ns
unfolding moved
moved_append dx dy [] ns = refl
moved_append dx dy (m ∷ ms) ns = ap (λ (l : List Node). moved_node dx dy m ∷ l) (moved_append dx dy ms ns)

pub moved_twice : (dx dy ex ey : ℤ) (ns : List Node) → moved dx dy (moved ex ey ns) ≡ moved (ex +ℤ dx) (ey +ℤ dy) ns
unfolding moved
moved_twice dx dy ex ey [] = refl
moved_twice dx dy ex ey (glyph x y size family code ∷ ns) = rw (+ℤ_assoc x, +ℤ_assoc y, moved_twice dx dy ex ey ns)
moved_twice dx dy ex ey (rule x y width thickness ∷ ns) = rw (+ℤ_assoc x, +ℤ_assoc y, moved_twice dx dy ex ey ns)

pub moved_nowhere : (ns : List Node) → moved (pos 0) (pos 0) ns ≡ ns
unfolding moved
moved_nowhere [] = refl
moved_nowhere (glyph x y size family code ∷ ns) = rw (+ℤ_idr x, +ℤ_idr y, moved_nowhere ns)
moved_nowhere (rule x y width thickness ∷ ns) = rw (+ℤ_idr x, +ℤ_idr y, moved_nowhere ns)
