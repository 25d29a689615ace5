-- Nodes that stand at the front of a buffer, if it has room for them; without room nothing is said. For a walk that writes nodes:
--     drawn_none, drawn_put     no node, and one
--     drawn_append              a run, and one behind it that was set in the rest of the buffer
-- Assumes nothing.
use Rattle.std.specs.Prelude.{◌≡◌, refl, List, [], ◌∷◌, ◌++◌, ℕ, ◌+◌, ◌*◌, ◌≤◌, length, take, drop}
use Rattle.std.proofs.Common.{sym, ◌∙◌, append-nil, append_assoc, arith, length-append, length-drop, take_at, drop_at, drop-drop}
use Rattle.nodes.specs.Nodes.{Node, bytes_in_node, node_bytes, bytes_of}
use Rattle.nodes.specs.NodeLaws.{length_bytes, bytes_append}
use Rattle.nodes.specs.Buffer.{put}
use Rattle.nodes.specs.BufferLaws.{written_room}

-- the buffer b has become b'
abbrev pub Drawn : List Node → List ℕ → List ℕ → Type 0
Drawn ns b b' = bytes_in_node * length ns ≤ length b → b' ≡ bytes_of ns ++ drop (bytes_in_node * length ns) b

pub drawn_none : (b : List ℕ) → Drawn [] b b
unfolding bytes_of
drawn_none b room = refl

pub drawn_put : (n : Node) (b : List ℕ) → Drawn (n ∷ []) b (put n b)
unfolding bytes_of
drawn_put n b room = rw append-nil (written_room (node_bytes n) b room)

-- the rest of b₁ from j on is set to r
pub drawn_append : {j : ℕ} (ms ns : List Node) (b b₁ r : List ℕ) → length b₁ ≡ length b →
    (bytes_in_node * length ms ≤ length b → j ≡ bytes_in_node * length ms) → Drawn ms b b₁ → Drawn ns (drop j b₁) r →
    Drawn (ms ++ ns) b (take j b₁ ++ r)
drawn_append {j} ms ns b b₁ r kept place first second room =
    let both = length-append ms ns in
    let at : j ≡ bytes_in_node * length ms = place (omega arith) in
    let size : length (bytes_of ms) ≡ j = length_bytes ms ∙ sym at in
    let front : b₁ ≡ bytes_of ms ++ drop j b = first (omega arith) ∙ rw at in
    let rest : r ≡ bytes_of ns ++ drop (bytes_in_node * length ns) (drop j b₁) = second (omega (arith, length-drop j b₁)) in
    let head : take j b₁ ≡ bytes_of ms = rw front (take_at (bytes_of ms) (drop j b) j size) in
    let behind : drop j b₁ ≡ drop j b = rw front (drop_at (bytes_of ms) (drop j b) j size) in
    let whole : bytes_in_node * length (ms ++ ns) ≡ j + bytes_in_node * length ns = omega arith in
    rw (head, rest, behind, whole, ← drop-drop (bytes_in_node * length ns) j b, bytes_append)
    (sym (append_assoc (bytes_of ms) (bytes_of ns) (drop (bytes_in_node * length ns) (drop j b))))
