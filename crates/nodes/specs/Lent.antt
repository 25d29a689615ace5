-- The part of a buffer from j on that is lent, and given back as r.
--     rest_lent, rest_back     what is lent, and the buffer once it is back
--     behind_lent              the bytes behind the first k nodes, lent and given back
--     drawn_behind             a run, and one behind it that was set in the part that was lent
-- Assumes nothing.
use Rattle.std.specs.Prelude.{◌≡◌, List, [], ◌++◌, ℕ, ◌-◌, length, take, drop}
use Rattle.std.proofs.Common.{◌∙◌, append-nil, arith, length-drop, drop_of_length-le, take_all}
use borrow.Rule.Slice.PartMut.{put_mid}
use Rattle.nodes.specs.Nodes.{Node}
use Rattle.nodes.specs.Buffer.{room_for, behind_nodes}
use Rattle.nodes.specs.Drawn.{Drawn, drawn_append}

module _ (j : ℕ) (b : List ℕ) where
  pub rest_lent : take (length b - j) (drop j b) ≡ drop j b
  rest_lent = take_all (length b - j) (drop j b) (omega (arith, length-drop j b))

  pub rest_back : (r : List ℕ) → put_mid j (length b - j) b r ≡ take j b ++ r
  rest_back r =
      let none_left : drop (length b - j) (drop j b) ≡ [] =
      drop_of_length-le (drop j b) {i = length b - j} (omega (arith, length-drop j b)) in
      rw (none_left, append-nil)

-- f is what was made of the part that was lent
pub behind_lent : {j : ℕ} (k : ℕ) (f : List ℕ → List ℕ) (b r : List ℕ) → j ≡ room_for k (length b) →
    r ≡ f (take (length b - j) (drop j b)) → put_mid j (length b - j) b r ≡ behind_nodes k f b
unfolding behind_nodes
behind_lent {j} k f b r at is = rest_back j b r ∙ rw (is, rest_lent j b, at)

-- `drawn_append` for a part that was lent behind the nodes ms, k of them
pub drawn_behind : {j k : ℕ} (ms ns : List Node) (b b₁ r : List ℕ) → length b₁ ≡ length b → k ≡ length ms →
    j ≡ room_for k (length b₁) → Drawn ms b b₁ → Drawn ns (take (length b₁ - j) (drop j b₁)) r →
    Drawn (ms ++ ns) b (put_mid j (length b₁ - j) b₁ r)
drawn_behind {j} ms ns b b₁ r same count at first second =
    rw (rest_back j b₁ r)
    (drawn_append {j = j} ms ns b b₁ r same (λ room. omega arith) first (rw (rest_lent j b₁) at second))
