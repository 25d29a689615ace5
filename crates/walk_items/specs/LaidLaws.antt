-- Parts that are set one behind another in a buffer, each into the rest of it (`Laid`).
--     laid_start     room that is left free at the front
--     laid_gap       room that is left free behind
--     laid_kept      what is kept once a part was lent
--     laid_field     nodes that were set in the part of the buffer that was lent
--     laid_none      a part without nodes
-- Assumes nothing.
use Rattle.std.specs.Prelude.{◌≡◌, Bool, true, ◌&&◌, List, [], ◌++◌, ℕ, ◌+◌, ◌-◌, ◌*◌, ◌≤◌, length, take, drop}
use Rattle.std.proofs.Common.{sym, ap, ◌∙◌, append-nil, append_assoc, arith, length-append, length-drop, take-append-drop, length-take-le, take_at, drop_at, drop-drop}
use Rattle.std.proofs.Math.Bool.{and-eq-true_iff}
use borrow.Rule.Slice.PartMut.{put_mid}
use Rattle.nodes.specs.Nodes.{Node, bytes_in_node, bytes_of}
use Rattle.nodes.specs.NodeLaws.{length_bytes}
use Rattle.nodes.specs.Buffer.{room_for}
use Rattle.nodes.specs.Drawn.{Drawn}
use Rattle.nodes.specs.Lent.{rest_lent, rest_back}
use Rattle.nodes.specs.Kept.{Kept, kept_all, kept_more, kept_next}
use Rattle.walk_items.specs.Standing.{Laid}

pub laid_start : {m : ℕ} (b₀ : List ℕ) (n : ℕ) → n ≤ m → Laid b₀ m n true (take (bytes_in_node * n) b₀) b₀
laid_start {m} b₀ n few =
    record {
      few = few;
      kept = kept_all m b₀;
      laid = λ h room. (length-take-le (bytes_in_node * n) b₀ room, sym (take-append-drop (bytes_in_node * n) b₀));
    }

module _ {b₀ : List ℕ} {m n : ℕ} {known : Bool} {w b : List ℕ} (so : Laid b₀ m n known w b) where
  pub laid_gap : (g : ℕ) → n + g ≤ m → Laid b₀ m (n + g) known (w ++ take (bytes_in_node * g) (drop (bytes_in_node * n) b₀)) b
  laid_gap g few =
      record {
        few = few;
        kept = so.kept;
        laid = λ h room.
            let was = so.laid h (omega arith) in
            let rest = drop (bytes_in_node * n) b₀ in
            let gap = take (bytes_in_node * g) rest in
            let long : length gap ≡ bytes_in_node * g = length-take-le (bytes_in_node * g) rest (omega (arith, length-drop (bytes_in_node * n) b₀)) in
            let whole : bytes_in_node * n + bytes_in_node * g ≡ bytes_in_node * (n + g) = omega arith in
            let front = was.0 in (
              omega (arith, length-append w gap),
              was.1 ∙ ap (λ (r : List ℕ). w ++ r) (sym (take-append-drop (bytes_in_node * g) rest))
                  ∙ sym (append_assoc w gap (drop (bytes_in_node * g) rest))
                  ∙ ap (λ (r : List ℕ). (w ++ gap) ++ r)
                  (drop-drop (bytes_in_node * g) (bytes_in_node * n) b₀ ∙ ap (λ (k : ℕ). drop k b₀) whole),
            );
      }

  pub laid_none : {k m' : ℕ} (fits : Bool) → m ≤ m' → k ≡ 0 → Laid b₀ m' (n + k) (known && fits) (w ++ []) b
  laid_none {k} fits more none_there =
      let e : n ≡ n + k = omega arith in
      let few = so.few in
      record {
        few = omega arith;
        kept = kept_more more so.kept;
        laid = λ h room.
            let was = so.laid ((and-eq-true_iff known fits).0 h).0 (omega arith) in
            (rw (append-nil w, ← e) was.0, rw (append-nil w, ← e) was.1);
      }

  -- the part from j on was lent and is back as r, with all but i nodes kept
  pub laid_kept : {i j m' : ℕ} {r : List ℕ} → m + i ≤ m' → j ≡ room_for n (length b) → Kept i (take (length b - j) (drop j b)) r →
      Kept m' b₀ (put_mid j (length b - j) b r)
  laid_kept more at kept = kept_more more (kept_next so.few so.kept at kept)

  -- the nodes ns, k of them, were set in it
  pub laid_field : {i j k m' : ℕ} {fits : Bool} {r : List ℕ} (ns : List Node) → n + k ≤ m' → m + i ≤ m' → j ≡ room_for n (length b) →
      (fits ≡ true → k ≡ length ns) → (fits ≡ true → Drawn ns (take (length b - j) (drop j b)) r) →
      Kept i (take (length b - j) (drop j b)) r →
      Laid b₀ m' (n + k) (known && fits) (w ++ bytes_of ns) (put_mid j (length b - j) b r)
  laid_field {j = j} {k} {fits = fits} {r} ns few more at count drawn kept =
      let before = so.kept.same in
      record {
        few = few;
        kept = laid_kept more at kept;
        laid = λ h room.
            let each = (and-eq-true_iff known fits).0 h in
            let few = count each.1 in
            let was = so.laid each.0 (omega arith) in
            let front : length w ≡ bytes_in_node * n = was.0 in
            let rest = drop (bytes_in_node * n) b₀ in
            let place : length w ≡ j = omega arith in
            let lent : take (length b - j) (drop j b) ≡ rest =
            rest_lent j b ∙ ap (drop j) was.1 ∙ drop_at w rest j place in
            let size = length_bytes ns in
            let set : r ≡ bytes_of ns ++ drop (bytes_in_node * length ns) rest =
            (rw lent at (drawn each.1)) (omega (arith, length-drop (bytes_in_node * n) b₀)) in
            let whole : bytes_in_node * n + bytes_in_node * length ns ≡ bytes_in_node * (n + k) = omega arith in
            let head : take j b ≡ w = ap (take j) was.1 ∙ take_at w rest j place in (
              omega (arith, length-append w (bytes_of ns)),
              rest_back j b r ∙ rw (head, set) (sym (append_assoc w (bytes_of ns) (drop (bytes_in_node * length ns) rest)))
                  ∙ ap (λ (l : List ℕ). (w ++ bytes_of ns) ++ l)
                  (drop-drop (bytes_in_node * length ns) (bytes_in_node * n) b₀ ∙ ap (λ (i : ℕ). drop i b₀) whole),
            );
      }
