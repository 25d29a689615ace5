-- What the code's stores of words come to.
--     node_stores                 the stores of a node are its bytes
--     glyph_bytes, rule_bytes     what is handed to `put_node` is the node's bytes
-- Assumes nothing.
use mathlib.Core.Path.{◌≡◌, sym, ◌∙◌}
use mathlib.Core.List.{List, ◌++◌}
use Prim.Native.Nat.{ℕ, ◌+◌, ◌*◌, ◌≤◌}
use native.Mathlib.Omega.{arith}
use lib.IntN.{ℤ, pos}
use lib.ListN.{length, set}
use lib.Seq.{sets, sets-eq}
use mir.Syntax.{w8}
use mir.Val.{Fits}
use Rattle.scaled.specs.Length.{max_ℤ}
use Rattle.words.specs.Words.{word_of, four_bytes}
use Rattle.words.specs.WordLaws.{four_of}
use Rattle.nodes.specs.Nodes.{glyph, rule, bytes_in_node, signed_bytes, node_bytes}
use Rattle.nodes.specs.Buffer.{written, node_of}
use Rattle.nodes.specs.BufferLaws.{written_room}

pub node_stores : {u v : ℕ} {b₁ b₂ : List ℕ} (b : List ℕ) (m m' : ℕ) (x y : ℤ) (p q : ℕ) → bytes_in_node ≤ length b →
    u ≡ word_of x → v ≡ word_of y → b₁ ≡ sets (set (set b 0 m) 1 m') 2 (four_bytes u ++ four_bytes v) →
    b₂ ≡ sets b₁ 10 (four_bytes p ++ four_bytes q) → b₂ ≡ written (node_of m m' x y p q) b
unfolding node_of signed_bytes four_bytes
node_stores b m m' x y p q l ux vy first second =
    second ∙ rw (first, ux, vy) (sets-eq (node_of m m' x y p q) b 0 l) ∙ sym (written_room _ b l)

pub glyph_bytes : {size family code : ℕ} (x y : ℤ) → Fits w8 size → Fits w8 family → Fits w8 code →
    node_of 71 76 x y (size + 256 * (family + 256 * (code + 256 * 0))) 0 ≡ node_bytes (glyph x y size family code)
unfolding node_of node_bytes four_bytes
glyph_bytes x y s f c = let e = four_of {w = 0} s f c (record { fits = omega arith }) in cc

pub rule_bytes : {w : ℤ} {p q : ℕ} (x y width thickness : ℤ) → w ≡ max_ℤ (pos 0) width → p ≡ word_of w →
    q ≡ word_of thickness → node_of 82 85 x y p q ≡ node_bytes (rule x y width thickness)
unfolding node_of node_bytes signed_bytes
rule_bytes x y width thickness wide pw qt = rw (qt, pw, wide)
