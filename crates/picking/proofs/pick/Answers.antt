-- `pick` meets its contract. The loop's invariant is `Down`, its measure the length of the list that is looked into.
-- Assumes nothing.
use mathlib.Core.Path.{◌∙◌}
use Prim.Native.Nat.{◌-◌}
use native.Mathlib.Omega.{arith}
use Rattle.picking.proofs.PickingLaws.{down_start, inner_long, down_into, into_shorter, into_inside, down_here}
use Rattle.picking.proofs.pick.Goals as goal

pub loop-style-init : goal.loop-style-init
loop-style-init c = down_start _ _ _ c.requires.0

pub overflow_sub-place : goal.overflow_sub-place
overflow_sub-place c = omega (arith, c.loop-style.invariant.low)

pub slice_bounds-step_in-count : goal.slice_bounds-step_in-count
slice_bounds-step_in-count c = omega (arith, c.loop-style.invariant.ordered)

pub slice_bounds-step_in-start : goal.slice_bounds-step_in-start
slice_bounds-step_in-start c = omega (arith, c.loop-style.invariant.ordered, c.loop-style.invariant.inside)

pub slice_bounds-step_in-end : goal.slice_bounds-step_in-end
slice_bounds-step_in-end c = omega (arith, c.loop-style.invariant.ordered, c.loop-style.invariant.inside)

pub step_in-requires : goal.step_in-requires
step_in-requires c =
    let down = c.loop-style.invariant in
    (down.readable, omega (arith, inner_long down, down.inside, c.requires.1))

pub returns-in-None : goal.returns-in-None
returns-in-None c = c.loop-style.invariant.is ∙ c.in-None.ensures

pub returns-in-Some-Here : goal.returns-in-Some-Here
returns-in-Some-Here c =
    let h = rw c.in-Some-Here.field-0-is at c.in-Some-Here.ensures in
    down_here c.loop-style.invariant h.0 h.1

pub loop-style-preserved : goal.loop-style-preserved
loop-style-preserved c = down_into c.loop-style.invariant (rw c.in-Some-Into.field-0-is at c.in-Some-Into.ensures)
