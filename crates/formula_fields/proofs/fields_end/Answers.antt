-- `fields_end` meets its contract: its fields stand one behind another, behind the opening, which lies in the item.
-- Assumes nothing.
use mathlib.Core.Path.{◌≡◌, sym, ap, ◌∙◌}
use mathlib.Core.Bool.{Bool}
use mathlib.Core.List.{List}
use Prim.Native.Nat.{ℕ}
use native.Mathlib.Omega.{arith}
use Rattle.formula.specs.declared.Kind.{Kind}
use Rattle.formula.specs.Tree.{opening_bytes}
use Rattle.formula.specs.Places.{field_end, third, third_end}
use Rattle.formula.specs.HeadLaws.{opening_fits}
use Rattle.formula_fields.proofs.fields_end.Goals as goal

pub field_end-second-requires : goal.field_end-second-requires
field_end-second-requires c = omega (arith, opening_fits _ _ c.requires)

-- the third field starts where the definition says
third_is : {at₁ at₂ at₃ : ℕ} (s : List ℕ) (kind : Kind) → at₁ ≡ opening_bytes kind → at₂ ≡ field_end s at₁ → at₃ ≡ field_end s at₂ →
    at₃ ≡ third s kind
third_is s kind e₁ e₂ e₃ = e₃ ∙ ap (field_end s) (e₂ ∙ ap (field_end s) e₁)

pub returns-then-has_third : goal.returns-then-has_third
returns-then-has_third c =
    let a = c.args in
    let has = sym c.has_third.ensures ∙ c.if-has_third.true in
    c.field_end.ensures.0
    ∙ ap (field_end a.s.now)
    (third_is a.s.now a.kind c.opening_bytes.ensures c.field_end-second.ensures.0 c.field_end-third.ensures.0)
    ∙ ap (λ (t : Bool). third_end a.s.now t (third a.s.now a.kind)) (sym has)

pub returns-else-has_third : goal.returns-else-has_third
returns-else-has_third c =
    let a = c.args in
    let has = sym c.has_third.ensures ∙ c.if-has_third.false in
    third_is a.s.now a.kind c.opening_bytes.ensures c.field_end-second.ensures.0 c.field_end-third.ensures.0
    ∙ ap (λ (t : Bool). third_end a.s.now t (third a.s.now a.kind)) (sym has)
