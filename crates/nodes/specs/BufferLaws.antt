-- Laws of a buffer of nodes.
--     written_room, written_full     `put`, with room and without
--     put_at                         a node put over a gap of its size
--     moved_room, moved_full         `moved_front`, with room and without
--     moved_run_at                   moved bytes are the bytes of moved nodes, whatever follows them
--     behind_at_lem                      what is done behind nodes that stand at the front leaves these alone
-- Assumes nothing.
use Rattle.std.specs.Prelude.{◌≡◌, refl, List, [], ◌∷◌, ◌++◌, ℕ, ◌*◌, ◌≤◌, ◌<◌, ℤ, ◌+ℤ◌, length, drop}
use Rattle.std.proofs.Common.{sym, ap₂, ◌∙◌, append_assoc, arith, length-append, take_at, drop_at, le-leb}
use Rattle.std.proofs.lemmas.Bool.{lt-leb}
use Rattle.words.specs.Words.{word_of, four_bytes}
use Rattle.nodes.specs.Nodes.{Node, glyph, rule, moved_node, moved, bytes_in_node, signed_bytes, node_bytes, bytes_of}
use Rattle.nodes.specs.Buffer.{written, put, added_at, moved_head, moved_bytes, moved_front, room_for, behind_nodes}
use Rattle.nodes.specs.NodeLaws.{signed_sum, length_node_bytes, length_bytes}

-- ---- put

module _ (s b : List ℕ) where
  pub written_room : bytes_in_node ≤ length b → written s b ≡ s ++ drop bytes_in_node b
  unfolding written
  written_room l = rw (le-leb _ _ l)

  pub written_full : length b < bytes_in_node → written s b ≡ b
  unfolding written
  written_full l = rw (lt-leb _ _ l)

pub put_at : (n : Node) (gap r : List ℕ) → length gap ≡ bytes_in_node → put n (gap ++ r) ≡ node_bytes n ++ r
put_at n gap r size =
    written_room (node_bytes n) (gap ++ r) (omega (arith, length-append gap r))
    ∙ rw (drop_at gap r bytes_in_node size)

-- ---- moving

-- the bytes of a node by its mark, its place and what follows
abbrev placed : ℕ → ℕ → ℤ → ℤ → List ℕ → List ℕ
placed m m' x y r = m ∷ m' ∷ (signed_bytes x ++ signed_bytes y) ++ r

moved_placed : (dx dy : ℤ) (m m' : ℕ) (x y : ℤ) (r : List ℕ) →
    moved_head (word_of dx) (word_of dy) (placed m m' x y r) ≡ placed m m' (x +ℤ dx) (y +ℤ dy) r
unfolding moved_head added_at signed_bytes four_bytes
moved_placed dx dy m m' x y r =
    ap₂ (λ (p q : List ℕ). m ∷ m' ∷ (p ++ q) ++ r) (signed_sum x dx (signed_bytes y ++ r)) (signed_sum y dy r)

moved_node_lem : (dx dy : ℤ) (n : Node) (r : List ℕ) →
    moved_head (word_of dx) (word_of dy) (node_bytes n ++ r) ≡ node_bytes (moved_node dx dy n) ++ r
unfolding node_bytes signed_bytes four_bytes
moved_node_lem dx dy (glyph x y size family code) r = moved_placed dx dy 71 76 x y _
moved_node_lem dx dy (rule x y width thickness) r = moved_placed dx dy 82 85 x y _

-- a run of nodes, whatever follows it
moved_bytes_lem : (dx dy : ℤ) (ns : List Node) (r : List ℕ) →
    moved_bytes (word_of dx) (word_of dy) (length ns) (bytes_of ns ++ r) ≡ bytes_of (moved dx dy ns) ++ r
unfolding moved_bytes bytes_of moved
moved_bytes_lem dx dy [] r = refl
moved_bytes_lem dx dy (n ∷ ns) r =
    let m = node_bytes (moved_node dx dy n) in
    let rest = bytes_of ns ++ r in
    let head : moved_head (word_of dx) (word_of dy) (node_bytes n ++ bytes_of ns ++ r) ≡ m ++ rest =
    rw append_assoc (moved_node_lem dx dy n rest) in
    rw (head, take_at m rest bytes_in_node (length_node_bytes _), drop_at m rest bytes_in_node (length_node_bytes _))
    (rw (moved_bytes_lem dx dy ns r) (sym (append_assoc m (bytes_of (moved dx dy ns)) r)))

module _ (dx dy : ℤ) (k : ℕ) (b : List ℕ) where
  pub moved_room : bytes_in_node * k ≤ length b → moved_front dx dy k b ≡ moved_bytes (word_of dx) (word_of dy) k b
  unfolding moved_front
  moved_room l = rw (le-leb _ _ l)

  pub moved_full : length b < bytes_in_node * k → moved_front dx dy k b ≡ b
  unfolding moved_front
  moved_full l = rw (lt-leb _ _ l)

pub moved_run_at : {k : ℕ} (dx dy : ℤ) (ns : List Node) (r : List ℕ) → k ≡ length ns →
    moved_front dx dy k (bytes_of ns ++ r) ≡ bytes_of (moved dx dy ns) ++ r
moved_run_at dx dy ns r count =
    rw count
    (moved_room dx dy (length ns) (bytes_of ns ++ r) (omega (arith, length-append (bytes_of ns) r, length_bytes ns))
    ∙ moved_bytes_lem dx dy ns r)

-- ---- behind nodes

pub behind_at_lem : (k : ℕ) (f : List ℕ → List ℕ) (w r : List ℕ) → length w ≡ bytes_in_node * k → behind_nodes k f (w ++ r) ≡ w ++ f r
unfolding behind_nodes
behind_at_lem k f w r size =
    let at : length w ≡ room_for k (length (w ++ r)) = omega (arith, length-append w r) in
    rw (take_at w r _ at, drop_at w r _ at)
