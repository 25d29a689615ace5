-- What becomes of a buffer of nodes.
--     put n b                 the node n at the front; `written` is the same for bytes
--     added_at k w b           w added to the four-byte word at k
--     moved_bytes u v k b      the words u and v added to the x and the y of each of the first k nodes
--     moved_front dx dy k b    the first k nodes moved right by dx and up by dy
--     room_for k n             where node number k starts in n bytes
--     behind_nodes k f b       what f makes of the bytes behind the first k nodes
-- `put` and `moved_front` change nothing where the bytes are too few. That moved bytes are the bytes of moved nodes is shown in
-- `BufferLaws`. Assumes nothing.
use Rattle.std.specs.Prelude.{cond, List, ◌∷◌, ◌++◌, ℕ, zero, suc, ◌+◌, ◌*◌, min, leb, ℤ, length, take, drop}
use Rattle.std.proofs.lemmas.List.Edits.{sets}
use Rattle.words.specs.Words.{little_endian, word_of, four_bytes}
use Rattle.nodes.specs.Nodes.{Node, bytes_in_node, signed_bytes, node_bytes}

-- bytes of a node over the first bytes, if there are as many
unfoldable pub written : List ℕ → List ℕ → List ℕ
written s b = cond (leb bytes_in_node (length b)) (s ++ drop bytes_in_node b) b

abbrev pub put : Node → List ℕ → List ℕ
put n b = written (node_bytes n) b

-- a node by its mark, its place and its last two words
unfoldable pub node_of : ℕ → ℕ → ℤ → ℤ → ℕ → ℕ → List ℕ
node_of m m' x y p q = m ∷ m' ∷ (signed_bytes x ++ signed_bytes y) ++ (four_bytes p ++ four_bytes q)

-- modulo 2 ^ 32: of a sum four bytes are stored
unfoldable pub added_at : ℕ → ℕ → List ℕ → List ℕ
added_at k w b = sets b k (four_bytes (little_endian 4 (drop k b) + w))

-- x stands at 2, y at 6
unfoldable pub moved_head : ℕ → ℕ → List ℕ → List ℕ
moved_head u v b = added_at 6 v (added_at 2 u b)

unfoldable pub moved_bytes : ℕ → ℕ → ℕ → List ℕ → List ℕ
moved_bytes u v zero b = b
moved_bytes u v (suc k) b = take bytes_in_node (moved_head u v b) ++ moved_bytes u v k (drop bytes_in_node (moved_head u v b))

unfoldable pub moved_front : ℤ → ℤ → ℕ → List ℕ → List ℕ
moved_front dx dy k b = cond (leb (bytes_in_node * k) (length b)) (moved_bytes (word_of dx) (word_of dy) k b) b

-- n if there is no room up to there
abbrev pub room_for : ℕ → ℕ → ℕ
room_for k n = min (bytes_in_node * k) n

unfoldable pub behind_nodes : ℕ → (List ℕ → List ℕ) → List ℕ → List ℕ
behind_nodes k f b = let j = room_for k (length b) in take j b ++ f (drop j b)
