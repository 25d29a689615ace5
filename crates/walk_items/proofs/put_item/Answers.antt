-- `put_item` meets its contract: its five steps are those of `item_buffer`, and each stands behind as many nodes as were there before.
-- Assumes nothing.
use mathlib.Core.Path.{◌≡◌, ap, ap₂, ◌∙◌}
use mathlib.Core.Bool.{Bool, ◌||◌}
use mathlib.Core.List.{List}
use Prim.Native.Nat.{ℕ, ◌+◌}
use native.Mathlib.Omega.{arith}
use lib.IntN.{pos, ◌+ℤ◌}
use lib.ListN.{length}
use Rattle.boxes.specs.Values.{arranged_as}
use Rattle.nodes.specs.Nodes.{moved}
use Rattle.nodes.specs.Buffer.{moved_front, behind_nodes}
use Rattle.nodes.specs.Hull.{Hull, joined, moved_hull, hull}
use Rattle.nodes.specs.Values.{hull_of, is_large}
use Rattle.setting.specs.Setting.{own_nodes}
use Rattle.walk_items.specs.Items.{own_put}
use Rattle.walk_items.specs.ItemLaws.{few_owned}
use Rattle.walk_items.proofs.put_item.Goals as goal

-- each proof goes back from step to step: `ahead`, `first`, `owned`, `second` and `third` are the places behind them
pub move_field-first-requires : goal.move_field-first-requires
move_field-first-requires c =
    let g = c.requires in
    let few = few_owned c.args.arranged.own.before in
    let n₀ = c.empty.ensures.count_is in
    let n₁ = c.put_own-ahead.ensures.count_is in
    record { few = omega arith; hull = g.first; x_small = g.x_small; place = g.bounded.first }

pub put_own-owned-requires : goal.put_own-owned-requires
put_own-owned-requires c =
    let g = c.requires in
    let few = few_owned c.args.arranged.own.before in
    let n₀ = c.empty.ensures.count_is in
    let n₁ = c.put_own-ahead.ensures.count_is in
    let n₂ = c.move_field-first.ensures.count_is in
    record { few = omega arith; near = g.bounded.own.behind; x_small = g.x_small }

pub move_field-second-requires : goal.move_field-second-requires
move_field-second-requires c =
    let g = c.requires in
    let few = few_owned c.args.arranged.own.before in
    let few-2 = few_owned c.args.arranged.own.behind in
    let n₀ = c.empty.ensures.count_is in
    let n₁ = c.put_own-ahead.ensures.count_is in
    let n₂ = c.move_field-first.ensures.count_is in
    let n₃ = c.put_own-owned.ensures.count_is in
    record { few = omega arith; hull = g.second; x_small = g.x_small; place = g.bounded.second }

pub move_field-requires : goal.move_field-requires
move_field-requires c =
    let g = c.requires in
    let few = few_owned c.args.arranged.own.before in
    let few-2 = few_owned c.args.arranged.own.behind in
    let n₀ = c.empty.ensures.count_is in
    let n₁ = c.put_own-ahead.ensures.count_is in
    let n₂ = c.move_field-first.ensures.count_is in
    let n₃ = c.put_own-owned.ensures.count_is in
    let n₄ = c.move_field-second.ensures.count_is in
    record { few = omega arith; hull = g.third; x_small = g.x_small; place = g.bounded.third }

pub returns : goal.returns
returns c =
    let x = c.args.x.0 in
    let A = arranged_as c.args.arranged in
    let i = c.args.a.count in
    let j = c.args.b.count in
    let k = c.args.c.count in
    let none_there = c.empty.ensures in
    let ahead = c.put_own-ahead.ensures in
    let first = c.move_field-first.ensures in
    let owned = c.put_own-owned.ensures in
    let second = c.move_field-second.ensures in
    let third = c.move_field.ensures in
    let zero = none_there.count_is in
    let n₀ = ahead.count_is in
    let n₁ = first.count_is in
    let n₂ = owned.count_is in
    let n₃ = second.count_is in
    let n₄ = third.count_is in
    let at₁ : c.put_own-ahead.result.count ≡ length A.own.before = omega arith in
    let at₂ : c.move_field-first.result.count ≡ length A.own.before + i = omega arith in
    let at₃ : c.put_own-owned.result.count ≡ length A.own.before + i + length A.own.behind = omega arith in
    let at₄ : c.move_field-second.result.count ≡ length A.own.before + i + length A.own.behind + j = omega arith in
    let b₀ = ahead.buffer_is ∙ ap (λ (n : ℕ). own_put x n A.own.before c.args.buf.now) zero in
    let b₁ = first.buffer_is ∙ ap₂ (λ (n : ℕ) (b : List ℕ). behind_nodes n (moved_front (x +ℤ A.first.across) A.first.up i) b) at₁ b₀ in
    let b₂ = owned.buffer_is ∙ ap₂ (λ (n : ℕ) (b : List ℕ). own_put x n A.own.behind b) at₂ b₁ in
    let b₃ = second.buffer_is ∙ ap₂ (λ (n : ℕ) (b : List ℕ). behind_nodes n (moved_front (x +ℤ A.second.across) A.second.up j) b) at₃ b₂ in
    let h₀ = ahead.hull_is ∙ ap (λ (h : Hull). joined h (hull (moved x (pos 0) (own_nodes A.own.before)))) none_there.hull_is in
    let h₁ = first.hull_is ∙ ap (λ (h : Hull). joined h (moved_hull (x +ℤ A.first.across) A.first.up (hull_of c.args.a))) h₀ in
    let h₂ = owned.hull_is ∙ ap (λ (h : Hull). joined h (hull (moved x (pos 0) (own_nodes A.own.behind)))) h₁ in
    let h₃ = second.hull_is ∙ ap (λ (h : Hull). joined h (moved_hull (x +ℤ A.second.across) A.second.up (hull_of c.args.b))) h₂ in
    let l₁ = first.large_is ∙ ap (λ (t : Bool). t || is_large c.args.a) (ahead.large_is ∙ none_there.large_is) in
    let l₃ = second.large_is ∙ ap (λ (t : Bool). t || is_large c.args.b) (owned.large_is ∙ l₁) in
    record {
      count_is = omega arith;
      large_is = third.large_is ∙ ap (λ (t : Bool). t || is_large c.args.c) l₃;
      hull_is = third.hull_is ∙ ap (λ (h : Hull). joined h (moved_hull (x +ℤ A.third.across) A.third.up (hull_of c.args.c))) h₃;
      buffer_is = third.buffer_is ∙ ap₂ (λ (n : ℕ) (b : List ℕ). behind_nodes n (moved_front (x +ℤ A.third.across) A.third.up k) b) at₄ b₃;
    }
