-- `step_from` meets its contract: the place is the item's first byte, or lies in one of its fields, which stand one behind another.
-- Assumes nothing.
use Rattle.std.proofs.Common.{◌≡◌, ℕ, ◌≤◌, ◌<◌, List, Bool, sym, ap, subst, ◌∙◌, arith}
use Rattle.formula.specs.Tree.{opening_bytes}
use Rattle.formula.specs.Places.{second, third, third_in}
use Rattle.formula.specs.PlacesLaws.{noad_at_lem, third_good}
use Rattle.boxes.specs.declared.styles.Style.{Style}
use Rattle.arrange.specs.Arrange.{first_style, second_style, third_style}
use Rattle.setting.specs.Picked.{pick_field}
use Rattle.walk_looks.specs.declared.current.Span.{Span}
use Rattle.picking.specs.Picking.{HeldSpan, entered_of}
use Rattle.picking.proofs.PickingLaws.{held_as, step_here, fields_first, fields_second, fields_third}
use Rattle.picking.proofs.step_from.Goals as goal

-- what a field holds, by an equal place
held_at : {s : List ℕ} {n m : ℕ} {span : Span} → n ≡ m → HeldSpan s n span → HeldSpan s m span
held_at {s} {span = span} is held = subst (λ (n : ℕ). HeldSpan s n span) is held

pub returns-then-place-eq0 : goal.returns-then-place-eq0
returns-then-place-eq0 c = step_here _ _ _ c.requires.2 c.requires.0 _ c.if-place-eq0.true

pub held-x-requires : goal.held-x-requires
held-x-requires c =
    let noad = noad_at_lem c.args.s.now c.args.kind c.requires.2 c.requires.0 in
    rw c.opening_bytes.ensures (noad.x, omega (arith, noad.first_in, noad.second_in, noad.third_in_lem, noad.end_in), c.requires.1)

pub returns-then-place-x : goal.returns-then-place-x
returns-then-place-x c =
    let x = held_at c.opening_bytes.ensures c.held-x.ensures in
    let a = c.args in
    let inside : a.place < second a.s.now a.kind = omega (arith, x.end_is, c.if-place-x.true) in
    held_as (first_style a.kind a.style) a.s.now (opening_bytes a.kind) c.held-x.result a.place _ x
    (fields_first a.style a.s.now a.kind c.requires.2 c.requires.0 a.place (omega (arith, c.if-place-eq0.false)) inside)
    (c.entered.ensures ∙ ap (λ (v : Style). entered_of v c.held-x.result a.place) c.first_style.ensures)

pub held-y-requires : goal.held-y-requires
held-y-requires c =
    let x = held_at c.opening_bytes.ensures c.held-x.ensures in
    let noad = noad_at_lem c.args.s.now c.args.kind c.requires.2 c.requires.0 in
    rw x.end_is (noad.y, omega (arith, noad.second_in, noad.third_in_lem, noad.end_in), c.requires.1)

pub returns-then-place-y : goal.returns-then-place-y
returns-then-place-y c =
    let x = held_at c.opening_bytes.ensures c.held-x.ensures in
    let y = held_at x.end_is c.held-y.ensures in
    let a = c.args in
    let low : second a.s.now a.kind ≤ a.place = omega (arith, x.end_is, c.if-place-x.false) in
    let inside : a.place < third a.s.now a.kind = omega (arith, y.end_is, c.if-place-y.true) in
    held_as (second_style a.kind a.style) a.s.now (second a.s.now a.kind) c.held-y.result a.place _ y
    (fields_second a.style a.s.now a.kind c.requires.2 c.requires.0 a.place (omega (arith, c.if-place-eq0.false)) low inside)
    (c.entered-then-place-y.ensures ∙ ap (λ (v : Style). entered_of v c.held-y.result a.place) c.second_style.ensures)

pub held-requires : goal.held-requires
held-requires c =
    let x = held_at c.opening_bytes.ensures c.held-x.ensures in
    let y = held_at x.end_is c.held-y.ensures in
    let a = c.args in
    let noad = noad_at_lem c.args.s.now c.args.kind c.requires.2 c.requires.0 in
    let has = sym c.has_third.ensures ∙ c.if-has_third.true in
    rw y.end_is (third_good a.s.now _ _ has noad.z, omega (arith, noad.third_in_lem, noad.end_in), c.requires.1)

pub returns-then-has_third : goal.returns-then-has_third
returns-then-has_third c =
    let x = held_at c.opening_bytes.ensures c.held-x.ensures in
    let y = held_at x.end_is c.held-y.ensures in
    let a = c.args in
    let s = a.s.now in
    let at = third s a.kind in
    let has = sym c.has_third.ensures ∙ c.if-has_third.true in
    let span = c.held.result in
    let z = held_at y.end_is c.held.ensures in
    let low : at ≤ a.place = omega (arith, y.end_is, c.if-place-y.false) in
    held_as (third_style a.style) s at span a.place _ z
    (fields_third a.style s a.kind c.requires.2 c.requires.0 a.place (omega (arith, c.if-place-eq0.false)) low
    ∙ ap (λ (t : Bool). pick_field (third_style a.style) at a.place (third_in s t at)) has)
    (c.entered-then-has_third.ensures ∙ ap (λ (v : Style). entered_of v span a.place) c.third_style.ensures)

pub returns : goal.returns
returns c =
    let x = held_at c.opening_bytes.ensures c.held-x.ensures in
    let y = held_at x.end_is c.held-y.ensures in
    let a = c.args in
    let none = sym c.has_third.ensures ∙ c.if-has_third.false in
    let inside = rw none at c.requires.3 in
    absurd (omega (arith, inside, y.end_is, c.if-place-y.false))
