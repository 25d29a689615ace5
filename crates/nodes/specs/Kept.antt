-- What stays of a buffer in which at most n nodes were written: b has become b'.
--     Kept                            the length, and what lies behind the first n nodes, or behind those of them that have room
--     kept_past, kept_whole           so no byte behind n nodes changes, and none at all where not one node has room
--     kept_all, kept_more, kept_then     nothing written; more nodes; one after the other
--     kept_put, kept_moved            a node put at the front, and nodes moved there
--     kept_next, kept_behind          what was done behind the first nodes, in a part that was lent or at once
-- Assumes nothing.
use Rattle.std.specs.Prelude.{◌≡◌, refl, Bool, true, false, List, [], ◌∷◌, ◌++◌, ℕ, zero, suc, ◌+◌, ◌-◌, ◌*◌, ◌/◌, ◌≤◌, ◌<◌, min, leb, ℤ, length, take, drop, set}
use Rattle.std.proofs.Common.{sym, ap, ◌∙◌, append-nil, arith, length-append, length-drop, drop_of_length-le, length-take-le, take_all, drop-drop, drop_at, drop-set-lt, leb-true, leb-false}
use Rattle.std.proofs.lemmas.List.Edits.{sets}
use Rattle.std.proofs.Math.Seq.{length-sets, drop-append-add}
use borrow.Rule.Slice.PartMut.{put_mid}
use Rattle.words.specs.Words.{little_endian, word_of, four_bytes}
use Rattle.nodes.specs.Nodes.{Node, bytes_in_node, node_bytes}
use Rattle.nodes.specs.NodeLaws.{length_node_bytes}
use Rattle.nodes.specs.Buffer.{written, put, added_at, moved_head, moved_bytes, moved_front, room_for, behind_nodes}
use Rattle.nodes.specs.BufferLaws.{written_room, written_full, moved_room, moved_full}
use Rattle.nodes.specs.Lent.{rest_lent, rest_back}

-- the bytes of the first n nodes, of those that have room
abbrev pub room_of : ℕ → ℕ → ℕ
room_of n room = bytes_in_node * min n (room / bytes_in_node)

pub record Kept (n : ℕ) (b b' : List ℕ) : Type 0 where
  pub same : length b' ≡ length b
  pub rest : drop (room_of n (length b)) b' ≡ drop (room_of n (length b)) b

-- ---- what it says

-- what is the same from j on is so from k on
further : (j k : ℕ) (b b' : List ℕ) → j ≤ k → drop j b' ≡ drop j b → drop k b' ≡ drop k b
further j k b b' l e =
    let whole : j + (k - j) ≡ k = omega arith in
    rw whole at (sym (drop-drop (k - j) j b') ∙ ap (drop (k - j)) e ∙ drop-drop (k - j) j b)

pub kept_past : {n : ℕ} {b b' : List ℕ} → Kept n b b' → drop (bytes_in_node * n) b' ≡ drop (bytes_in_node * n) b
kept_past {n} {b} {b'} o = further (room_of n (length b)) (bytes_in_node * n) b b' (omega arith) o.rest

pub kept_whole : {n : ℕ} {b b' : List ℕ} → length b < bytes_in_node → Kept n b b' → b' ≡ b
kept_whole {n} {b} few o =
    let none : room_of n (length b) ≡ 0 = omega arith in
    rw none at o.rest

-- ---- one after the other

pub kept_all : (n : ℕ) (b : List ℕ) → Kept n b b
kept_all n b = record { same = refl; rest = refl }

pub kept_more : {m n : ℕ} {b b' : List ℕ} → m ≤ n → Kept m b b' → Kept n b b'
kept_more {m} {n} {b} {b'} l o =
    record { same = o.same; rest = further (room_of m (length b)) (room_of n (length b)) b b' (omega arith) o.rest }

pub kept_then : {n : ℕ} {b b' b'' : List ℕ} → Kept n b b' → Kept n b' b'' → Kept n b b''
kept_then {n} o p = record { same = p.same ∙ o.same; rest = rw o.same at p.rest ∙ o.rest }

-- ---- nodes at the front

-- with room for m bytes, and without
by_room : {A : Type 0} (m : ℕ) (b : List ℕ) → (m ≤ length b → A) → (length b < m → A) → A
by_room {A} m b with_room full = go (leb m (length b)) refl
  where
    go : (t : Bool) → leb m (length b) ≡ t → A
    go true e = with_room (leb-true m (length b) e)
    go false e = full (leb-false m (length b) e)

kept_written : (s b : List ℕ) → length s ≡ bytes_in_node → Kept 1 b (written s b)
kept_written s b size = by_room bytes_in_node b with_room full
  where
    with_room : bytes_in_node ≤ length b → Kept 1 b (written s b)
    with_room l =
        let one : room_of 1 (length b) ≡ bytes_in_node = omega arith in
        rw (written_room s b l)
        (record {
          same = omega (arith, length-append s (drop bytes_in_node b), length-drop bytes_in_node b);
          rest = rw one (drop_at s (drop bytes_in_node b) bytes_in_node size);
        })

    full : length b < bytes_in_node → Kept 1 b (written s b)
    full l = rw (written_full s b l) (kept_all 1 b)

pub kept_put : (n : Node) (b : List ℕ) → Kept 1 b (put n b)
kept_put n b = kept_written (node_bytes n) b (length_node_bytes n)

-- ---- behind the first k nodes

module _ (k n : ℕ) (b r : List ℕ) where
  kept_front : {j : ℕ} → j ≡ room_for k (length b) → Kept n (drop j b) r → Kept (k + n) b (take j b ++ r)
  kept_front {j} at o = by_room (bytes_in_node * k) b with_room full
    where
      long : length (take j b) ≡ j
      long = length-take-le j b (omega arith)

      with_room : bytes_in_node * k ≤ length b → Kept (k + n) b (take j b ++ r)
      with_room l =
          let left = length-drop j b in
          let same = o.same in
          let i = room_of n (length (drop j b)) in
          let whole : room_of (k + n) (length b) ≡ length (take j b) + i = omega (arith, long) in
          let more : j + i ≡ length (take j b) + i = omega (arith, long) in
          record {
            same = omega (arith, long, length-append (take j b) r);
            rest = rw whole (drop-append-add (take j b) r i ∙ o.rest ∙ drop-drop i j b ∙ rw more);
          }

      full : length b < bytes_in_node * k → Kept (k + n) b (take j b ++ r)
      full l =
          let left = length-drop j b in
          let none : r ≡ [] = drop_of_length-le r {i = 0} (omega (arith, o.same)) in
          rw (none, append-nil, take_all j b (omega arith)) (kept_all (k + n) b)

  kept_lent : {j : ℕ} → j ≡ room_for k (length b) → Kept n (take (length b - j) (drop j b)) r →
      Kept (k + n) b (put_mid j (length b - j) b r)
  kept_lent {j} at o = rw (rest_back j b r) (kept_front at (rw (rest_lent j b) at o))

-- with at most k nodes before it, in a buffer of which all but k were kept
pub kept_next : {i j k n : ℕ} {b₀ b r : List ℕ} → i ≤ k → Kept k b₀ b → j ≡ room_for i (length b) →
    Kept n (take (length b - j) (drop j b)) r → Kept (k + n) b₀ (put_mid j (length b - j) b r)
kept_next {i} {n = n} {b = b} {r} few before at o =
    kept_then (kept_more (omega arith) before) (kept_more (omega arith) (kept_lent i n b r at o))

pub kept_behind : (k n : ℕ) (f : List ℕ → List ℕ) (b : List ℕ) → ((r : List ℕ) → Kept n r (f r)) → Kept (k + n) b (behind_nodes k f b)
unfolding behind_nodes
kept_behind k n f b o = kept_front k n b _ refl (o _)

-- ---- moved nodes

behind_sets : (n : ℕ) (vs b : List ℕ) (k : ℕ) → k + length vs ≤ n → drop n (sets b k vs) ≡ drop n b
behind_sets n [] b k l = refl
behind_sets n (x ∷ vs) b k l = behind_sets n vs (set b k x) (suc k) (omega arith) ∙ drop-set-lt n b k x (omega arith)

behind_word : (k w : ℕ) (b : List ℕ) → k + 4 ≤ bytes_in_node → (length (added_at k w b) ≡ length b) × (drop bytes_in_node (added_at k w b) ≡ drop bytes_in_node b)
unfolding added_at four_bytes
behind_word k w b l =
    let word = four_bytes (little_endian 4 (drop k b) + w) in
    (length-sets b k word, behind_sets bytes_in_node word b k l)

-- the first node, if it is there
kept_head : (u v : ℕ) (b : List ℕ) → bytes_in_node ≤ length b → Kept 1 b (moved_head u v b)
unfolding moved_head
kept_head u v b l =
    let one : room_of 1 (length b) ≡ bytes_in_node = omega arith in
    let x = behind_word 2 u b (omega arith) in
    let y = behind_word 6 v (added_at 2 u b) (omega arith) in
    record { same = y.0 ∙ x.0; rest = rw one (y.1 ∙ x.1) }

kept_bytes : (u v k : ℕ) (b : List ℕ) → bytes_in_node * k ≤ length b → Kept k b (moved_bytes u v k b)
unfolding moved_bytes
kept_bytes u v zero b l = kept_all 0 b
kept_bytes u v (suc k) b l =
    let h = moved_head u v b in
    let first = kept_head u v b (omega arith) in
    let same = first.same in
    let others = kept_bytes u v k (drop bytes_in_node h) (omega (arith, length-drop bytes_in_node h)) in
    let later : Kept (1 + k) h (take bytes_in_node h ++ moved_bytes u v k (drop bytes_in_node h)) = kept_front 1 k h _ {j = bytes_in_node} (omega arith) others in
    kept_then (kept_more (omega arith) first) (kept_more (omega arith) later)

pub kept_moved : (dx dy : ℤ) (k : ℕ) (b : List ℕ) → Kept k b (moved_front dx dy k b)
kept_moved dx dy k b = by_room (bytes_in_node * k) b with_room full
  where
    with_room : bytes_in_node * k ≤ length b → Kept k b (moved_front dx dy k b)
    with_room l = rw (moved_room dx dy k b l) (kept_bytes (word_of dx) (word_of dy) k b l)

    full : length b < bytes_in_node * k → Kept k b (moved_front dx dy k b)
    full l = rw (moved_full dx dy k b l) (kept_all k b)
