-- The k-th node of a moved run, in bytes: of its 18, only those of x and y change.
--     OnlyPlaceMoved      a node's bytes in two buffers: the mark and the last eight are the same, x and y are moved (`LengthMoved`)
--     moved_node_bytes    of one node
--     moved_at            of the k-th node of a run at the front of a buffer
--     nodes_passed        the nodes behind others
-- Assumes nothing.
use Rattle.std.specs.Prelude.{◌≡◌, refl, ℕ, zero, suc, ◌+◌, ◌*◌, ◌<◌, ℤ, ◌+ℤ◌, length, take, drop}
use Rattle.std.proofs.Common.{sym, subst₂, ap, ◌∙◌, arith}
use mathlib.Core.List.{List, [], ◌∷◌, ◌++◌, append_assoc}
use Rattle.std.proofs.Math.Seq.{take-append_seam, drop-append-add}
use Rattle.words.specs.Words.{four_bytes}
use Rattle.boxes.specs.Boxes.{Offset}
use Rattle.nodes.specs.Nodes.{Node, glyph, rule, moved_node, moved, signed_bytes, node_bytes, bytes_of, bytes_in_node}
use Rattle.nodes.specs.NodeLaws.{length_node_bytes, length_bytes}
use Rattle.setting.specs.Setting.{moved_by}

-- four bytes at a place of a node's, which are a length, moved by a distance
pub record LengthMoved (at : ℕ) (distance : ℤ) (alone placed : List ℕ) : Type 0 where
  pub from : ℤ
  pub length_alone : take 4 (drop at alone) ≡ signed_bytes from
  pub length_placed : take 4 (drop at placed) ≡ signed_bytes (from +ℤ distance)

-- x at the bytes 2 to 5, y at the bytes 6 to 9
pub record OnlyPlaceMoved (d : Offset) (alone placed : List ℕ) : Type 0 where
  pub whole_alone : length alone ≡ bytes_in_node
  pub whole_placed : length placed ≡ bytes_in_node
  pub same_mark : take 2 placed ≡ take 2 alone
  pub x : LengthMoved 2 d.across alone placed
  pub y : LengthMoved 6 d.up alone placed
  pub same_last : drop 10 placed ≡ drop 10 alone

-- a node's bytes: a mark, x, y and eight bytes more
abbrev written : ℕ → ℕ → List ℕ → ℤ → ℤ → List ℕ
written m₁ m₂ last x y = m₁ ∷ m₂ ∷ (signed_bytes x ++ signed_bytes y) ++ last

written_moved : (d : Offset) (m₁ m₂ : ℕ) (last : List ℕ) (x y : ℤ) → length last ≡ 8 →
    OnlyPlaceMoved d (written m₁ m₂ last x y) (written m₁ m₂ last (x +ℤ d.across) (y +ℤ d.up))
unfolding signed_bytes four_bytes
written_moved d m₁ m₂ last x y eight =
    record {
      whole_alone = omega arith;
      whole_placed = omega arith;
      same_mark = refl;
      x = record { from = x; length_alone = refl; length_placed = refl };
      y = record { from = y; length_alone = refl; length_placed = refl };
      same_last = refl;
    }

pub moved_node_bytes : (d : Offset) (n : Node) → OnlyPlaceMoved d (node_bytes n) (node_bytes (moved_node d.across d.up n))
unfolding node_bytes signed_bytes four_bytes
moved_node_bytes d (glyph x y size family code) = written_moved d 71 76 _ x y refl
moved_node_bytes d (rule x y width thickness) = written_moved d 82 85 _ x y refl

-- ---- in a buffer

abbrev pub node_at : ℕ → List ℕ → List ℕ
node_at k buffer = take bytes_in_node (drop (bytes_in_node * k) buffer)

bytes_passed : (xs r : List ℕ) (j k : ℕ) → bytes_in_node * j ≡ length xs + bytes_in_node * k → node_at j (xs ++ r) ≡ node_at k r
bytes_passed xs r j k e =
    ap (λ (m : ℕ). take bytes_in_node (drop m (xs ++ r))) e ∙ ap (take bytes_in_node) (drop-append-add xs r (bytes_in_node * k))

pub nodes_passed : (ns : List Node) (k : ℕ) (r : List ℕ) → node_at (length ns + k) (bytes_of ns ++ r) ≡ node_at k r
nodes_passed ns k r = bytes_passed (bytes_of ns) r (length ns + k) k (omega (arith, length_bytes ns))

module _ (n : Node) (ns : List Node) (r : List ℕ) where
  regrouped : bytes_of (n ∷ ns) ++ r ≡ node_bytes n ++ (bytes_of ns ++ r)
  unfolding bytes_of
  regrouped = append_assoc (node_bytes n) (bytes_of ns) r

  first_node : node_at 0 (bytes_of (n ∷ ns) ++ r) ≡ node_bytes n
  first_node =
      let rest = bytes_of ns ++ r in
      ap (node_at 0) regrouped
      ∙ ap (λ (k : ℕ). take k (node_bytes n ++ rest)) (sym (length_node_bytes n))
      ∙ take-append_seam (node_bytes n) rest

  next_node : (k : ℕ) → node_at (suc k) (bytes_of (n ∷ ns) ++ r) ≡ node_at k (bytes_of ns ++ r)
  next_node k =
      ap (node_at (suc k)) regrouped
      ∙ bytes_passed (node_bytes n) (bytes_of ns ++ r) (suc k) k (omega (arith, length_node_bytes n))

pub moved_as : (d : Offset) {a a' b b' : List ℕ} → a ≡ a' → b ≡ b' → OnlyPlaceMoved d a' b' → OnlyPlaceMoved d a b
moved_as d e f h = subst₂ (OnlyPlaceMoved d) (sym e) (sym f) h

pub moved_at : (d : Offset) (ns : List Node) (k : ℕ) (r q : List ℕ) → k < length ns →
    OnlyPlaceMoved d (node_at k (bytes_of ns ++ r)) (node_at k (bytes_of (moved_by d ns) ++ q))
unfolding moved
moved_at d [] k r q l = absurd (omega arith)
moved_at d (n ∷ ns) zero r q l =
    let m = moved_node d.across d.up n in
    moved_as d (first_node n ns r) (first_node m (moved_by d ns) q) (moved_node_bytes d n)
moved_at d (n ∷ ns) (suc k) r q l =
    let m = moved_node d.across d.up n in
    moved_as d (next_node n ns r k) (next_node m (moved_by d ns) q k) (moved_at d ns k r q (omega arith))
