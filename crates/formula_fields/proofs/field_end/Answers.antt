-- `field_end` meets its contract: what its head says of a field lies in the item.
-- Assumes nothing.
use mathlib.Core.Path.{◌≡◌, ap, ◌∙◌}
use mathlib.Core.List.{List}
use Prim.Native.Nat.{ℕ, ◌+◌, ◌-◌, ◌≤◌}
use native.Mathlib.Omega.{arith}
use lib.ListN.{length, take, drop}
use Rattle.formula.specs.Heads.{field_head}
use Rattle.formula.specs.Places.{head_bytes, head_at, field_end}
use Rattle.formula.specs.Slices.{tail_part}
use Rattle.formula.specs.ReadingLaws.{field_end_in}
use Rattle.formula_fields.proofs.field_end.Goals as goal

-- the field, by what the code reads of it
ends : (s : List ℕ) (at n : ℕ) → at ≤ length s → n ≡ head_bytes (field_head (take (length s - at) (drop at s))) →
    (at + n ≡ field_end s at) × (at + n ≤ length s)
ends s at n l e =
    let is : n ≡ head_bytes (head_at s at) = e ∙ ap (λ (r : List ℕ). head_bytes (field_head r)) (tail_part s at) in
    (omega arith, omega (arith, field_end_in s at l))

pub field_bytes-requires : goal.field_bytes-requires
field_bytes-requires c =
    omega (arith, (ends c.args.s.now c.args.at (head_bytes c.field_head.result) c.requires (ap head_bytes c.field_head.ensures)).1)

pub overflow_add-result : goal.overflow_add-result
overflow_add-result c =
    let size = c.field_bytes.ensures ∙ ap head_bytes c.field_head.ensures in
    omega (arith, (ends c.args.s.now c.args.at c.field_bytes.result c.requires size).1)

pub returns : goal.returns
returns c =
    let size = c.field_bytes.ensures ∙ ap head_bytes c.field_head.ensures in
    ends c.args.s.now c.args.at c.field_bytes.result c.requires size
