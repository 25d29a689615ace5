-- Nodes that are moved by nothing stay as they are: a word that has 0 added to it is written back (`four_again`).
-- Assumes nothing.
use mathlib.Core.Path.{◌≡◌, refl, ap, ◌∙◌}
use mathlib.Core.List.{List, ◌++◌}
use Prim.Native.Nat.{ℕ, zero, suc, ◌+◌, ◌*◌, ◌≤◌}
use native.Mathlib.Nat.{add-zero}
use native.Mathlib.Omega.{arith}
use lib.ListN.{length, take, drop, length-drop, take-append-drop}
use lib.Seq.{sets, sets-eq, length-take-le, take-add, get_or-drop}
use lib.IntN.{ℤ}
use Rattle.words.specs.Words.{little_endian, word_of, four_bytes}
use Rattle.words.specs.WordLaws.{Bytes, four_again}
use Rattle.nodes.specs.Nodes.{bytes_in_node}
use Rattle.nodes.specs.Buffer.{added_at, moved_head, moved_bytes, moved_front}
use Rattle.nodes.specs.BufferLaws.{moved_room}

bytes_behind : (n : ℕ) (b : List ℕ) → Bytes b → Bytes (drop n b)
bytes_behind n b byte i = rw (get_or-drop n b i 0) (byte (n + i))

unmoved_at : (k : ℕ) (b : List ℕ) → k + 4 ≤ length b → Bytes b → added_at k 0 b ≡ b
unfolding added_at
unmoved_at k b l byte =
    let behind = drop k b in
    let room : 4 ≤ length behind = omega (arith, length-drop k b) in
    let word = take 4 behind in
    let size : length word ≡ 4 = length-take-le 4 behind room in
    let same : four_bytes (little_endian 4 behind + 0) ≡ word = rw add-zero (four_again behind room (bytes_behind k b byte)) in
    ap (sets b k) same
    ∙ sets-eq word b k (omega arith)
    ∙ rw (size, ← take-add k 4 b) (take-append-drop (k + 4) b)

unmoved_head : (b : List ℕ) → bytes_in_node ≤ length b → Bytes b → moved_head 0 0 b ≡ b
unfolding moved_head
unmoved_head b l byte = ap (added_at 6 0) (unmoved_at 2 b (omega arith) byte) ∙ unmoved_at 6 b (omega arith) byte

unmoved_bytes : (k : ℕ) (b : List ℕ) → bytes_in_node * k ≤ length b → Bytes b → moved_bytes 0 0 k b ≡ b
unfolding moved_bytes
unmoved_bytes zero b l byte = refl
unmoved_bytes (suc k) b l byte =
    rw (unmoved_head b (omega arith) byte)
    (ap (λ (r : List ℕ). take bytes_in_node b ++ r) (unmoved_bytes k (drop bytes_in_node b) (omega (arith, length-drop bytes_in_node b)) (bytes_behind bytes_in_node b byte))
    ∙ take-append-drop bytes_in_node b)

pub unmoved_front : (dx dy : ℤ) (k : ℕ) (b : List ℕ) → word_of dx ≡ 0 → word_of dy ≡ 0 → bytes_in_node * k ≤ length b → Bytes b →
    moved_front dx dy k b ≡ b
unmoved_front dx dy k b no-right no-up room byte = moved_room dx dy k b room ∙ rw (no-right, no-up) (unmoved_bytes k b room byte)
