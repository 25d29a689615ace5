-- Moving nodes in a buffer.
--     added_behind, head_behind     a word that is added to, or a node that is moved, behind a prefix leaves the prefix alone
--     Moving             the invariant of the loop over nodes, with its start, its turn and its end
--     none_moved         no node is moved
-- Assumes nothing.
use mathlib.Core.Path.{◌≡◌, refl, sym, ◌∙◌}
use mathlib.Core.List.{List, [], ◌∷◌, ◌++◌, append_assoc}
use Prim.Native.Nat.{ℕ, suc, ◌+◌, ◌-◌, ◌*◌, ◌≤◌, ◌<◌}
use native.Mathlib.Omega.{arith}
use native.Mathlib.Nat.{add-suc, le-add_right}
use lib.ListN.{length, take, drop, set, take-append-drop}
use lib.Seq.{sets, length-take-le, drop-drop, take-set-le, drop-set-add, take_at, drop_at, take-append-add, drop-append-add}
use lib.IntN.{ℤ}
use Rattle.words.specs.Words.{little_endian, four_bytes}
use Rattle.nodes.specs.Nodes.{bytes_in_node}
use Rattle.nodes.specs.Buffer.{added_at, moved_head, moved_bytes, moved_front, room_for, behind_nodes}
use Rattle.nodes.specs.BufferLaws.{moved_room}

-- ---- behind a prefix

sets_behind : (vs : List ℕ) (a k : ℕ) (b : List ℕ) → sets b (a + k) vs ≡ take a b ++ sets (drop a b) k vs
sets_behind [] a k b = sym (take-append-drop a b)
sets_behind (x ∷ vs) a k b =
    rw (← add-suc a k)
    (sets_behind vs a (suc k) (set b (a + k) x) ∙ rw (take-set-le a b (a + k) x (le-add_right a k), drop-set-add a b k x))

pub added_behind : (a k w : ℕ) (b : List ℕ) → added_at (a + k) w b ≡ take a b ++ added_at k w (drop a b)
unfolding added_at
added_behind a k w b =
    let vs = four_bytes (little_endian 4 (drop k (drop a b)) + w) in
    rw (← drop-drop k a b) (sets_behind vs a k b)

pub head_behind : {b₁ b₂ : List ℕ} (a u v : ℕ) (b : List ℕ) → a ≤ length b → b₁ ≡ added_at (a + 2) u b →
    b₂ ≡ added_at (a + 6) v b₁ → b₂ ≡ take a b ++ moved_head u v (drop a b)
unfolding moved_head
head_behind {b₁} a u v b l first second =
    let h = added_at 2 u (drop a b) in
    let split : b₁ ≡ take a b ++ h = first ∙ added_behind a 2 u b in
    let size = length-take-le a b l in
    second ∙ added_behind a 6 v b₁ ∙ rw (split, take_at (take a b) h a size, drop_at (take a b) h a size)

-- ---- the loop over nodes

-- i of count nodes are moved: what is still to do is done of what stands behind them
pub record Moving (u v count : ℕ) (b₀ b : List ℕ) (i : ℕ) : Type 0 where
  pub passed : i ≤ count
  pub same : length b ≡ length b₀
  pub rest : moved_bytes u v count b₀ ≡ take (bytes_in_node * i) b ++ moved_bytes u v (count - i) (drop (bytes_in_node * i) b)

pub started : (u v count : ℕ) (b : List ℕ) → Moving u v count b b 0
started u v count b =
    let all : count - 0 ≡ count = omega arith in
    record { passed = omega arith; same = refl; rest = rw all }

module _ {u v count i : ℕ} {b₀ b : List ℕ} (m : Moving u v count b₀ b i) where
  pub turn : {b₁ : List ℕ} → bytes_in_node * count ≤ length b₀ → i < count → length b₁ ≡ length b →
      b₁ ≡ take (bytes_in_node * i) b ++ moved_head u v (drop (bytes_in_node * i) b) → Moving u v count b₀ b₁ (i + 1)
  unfolding moved_bytes
  turn {b₁} room l kept is =
      let a = bytes_in_node * i in
      let p = take a b in
      let h = moved_head u v (drop a b) in
      let size : length p ≡ a = length-take-le a b (omega (arith, m.same)) in
      let next : bytes_in_node * (i + 1) ≡ length p + bytes_in_node = omega arith in
      let left : count - i ≡ suc (count - (i + 1)) = omega arith in
      let before : moved_bytes u v count b₀ ≡ p ++ moved_bytes u v (suc (count - (i + 1))) (drop a b) = m.rest ∙ rw left in
      record {
        passed = omega arith;
        same = kept ∙ m.same;
        rest = before ∙ sym (append_assoc p (take bytes_in_node h) _) ∙ rw (is, next, take-append-add p h, drop-append-add p h);
      }

  pub finished : count ≤ i → moved_bytes u v count b₀ ≡ b
  unfolding moved_bytes
  finished l =
      let none : count - i ≡ 0 = omega arith in
      m.rest ∙ rw none (take-append-drop (bytes_in_node * i) b)

-- ---- no node

pub none_moved : {count : ℕ} (k : ℕ) (dx dy : ℤ) (b : List ℕ) → count ≡ 0 → behind_nodes k (moved_front dx dy count) b ≡ b
unfolding behind_nodes moved_bytes
none_moved k dx dy b none =
    let j = room_for k (length b) in
    rw (none, moved_room dx dy 0 (drop j b) (omega arith)) (take-append-drop j b)

-- the ways of the loop
pub ruleset moving = (started, turn, finished)
