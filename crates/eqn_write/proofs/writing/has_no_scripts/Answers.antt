-- `has_no_scripts` meets its contract: what is lent from a place on is what stands there.
-- Assumes nothing.
use mathlib.Core.Path.{◌≡◌, ap, ap₂, ◌∙◌}
use mathlib.Core.Bool.{Bool, ◌&&◌}
use mathlib.Core.List.{List}
use Prim.Native.Nat.{ℕ, ◌-◌}
use lib.ListN.{length, take, drop}
use Rattle.eqn_tokens.specs.BytesLaws.{rest_lent}
use Rattle.formula.specs.Heads.{field_head, is_empty}
use Rattle.formula.specs.Places.{head_at, field_end}
use Rattle.eqn_write.proofs.writing.has_no_scripts.Goals as goal

empty_at : (s : List ℕ) {at place : ℕ} {r : Bool} → r ≡ is_empty (field_head (take (length s - at) (drop at s))) → at ≡ place → r ≡ is_empty (head_at s place)
empty_at s {at} e is = e ∙ ap (λ (x : List ℕ). is_empty (field_head x)) (rest_lent at s) ∙ ap (λ (i : ℕ). is_empty (head_at s i)) is

pub returns : goal.returns
returns c =
    let s = c.args.s.now in
    let second = c.field_end-second.ensures.0 in
    let third = c.field_end-third.ensures.0 ∙ ap (field_end s) second in
    ap₂ ◌&&◌ (empty_at s c.is_empty.ensures second) (empty_at s c.is_empty-2.ensures third)
