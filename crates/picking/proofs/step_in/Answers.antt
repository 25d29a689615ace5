-- `step_in` meets its contract. The loop's invariant is `Along`, its measure what is left of the list.
-- Assumes nothing.
use mathlib.Core.Path.{sym, subst}
use Rattle.std.specs.Prelude.{Option}
use mathlib.Core.Option.{Option as OptionOf}
use Prim.Native.Nat.{◌-◌}
use native.Mathlib.Omega.{arith}
use lib.ListN.{length, drop, length-take, length-drop}
use Rattle.formula.specs.Slices.{tail_part}
use Rattle.formula.specs.Places.{tree_of}
use Rattle.setting.specs.Picked.{Picked, pick_in}
use Rattle.walk_looks.specs.PlaceLaws.{rest_opens, next_some, next_between}
use Rattle.picking.specs.declared.Step.{Step}
use Rattle.picking.specs.Picking.{StepDone}
use Rattle.picking.proofs.PickingLaws.{behind_done, short_step, along_start, along_here, here_inside, along_next, along_done}
use Rattle.picking.proofs.step_in.Goals as goal

pub loop-at-init : goal.loop-at-init
loop-at-init c = along_start _ _ _ c.requires.0

pub slice_bounds-look_at-count : goal.slice_bounds-look_at-count
slice_bounds-look_at-count c = omega (arith, c.loop-at.invariant.between.inside)

pub slice_bounds-look_at-start : goal.slice_bounds-look_at-start
slice_bounds-look_at-start c = omega (arith, c.loop-at.invariant.between.inside)

pub slice_bounds-look_at-end : goal.slice_bounds-look_at-end
slice_bounds-look_at-end c = omega (arith, c.loop-at.invariant.between.inside)

pub look_at-sight-requires : goal.look_at-sight-requires
look_at-sight-requires c =
    let along = c.loop-at.invariant in
    let more = c.loop-at-test.true in
    (rest_opens along.between more c.requires.1).0

pub overflow_add-next : goal.overflow_add-next
overflow_add-next c =
    let along = c.loop-at.invariant in
    let more = c.loop-at-test.true in
    omega (arith, (next_between along.between more c.look_at-sight.ensures).inside, c.requires.1)

pub overflow_sub-place : goal.overflow_sub-place
overflow_sub-place c = omega (arith, c.loop-at.invariant.low)

pub slice_bounds-step_at-count : goal.slice_bounds-step_at-count
slice_bounds-step_at-count c = omega (arith, c.loop-at.invariant.between.inside)

pub slice_bounds-step_at-start : goal.slice_bounds-step_at-start
slice_bounds-step_at-start c = omega (arith, c.loop-at.invariant.between.inside)

pub slice_bounds-step_at-end : goal.slice_bounds-step_at-end
slice_bounds-step_at-end c = omega (arith, c.loop-at.invariant.between.inside)

pub step_at-requires : goal.step_at-requires
step_at-requires c =
    let along = c.loop-at.invariant in
    let more = c.loop-at-test.true in
    let s = c.args.s.now in
    let g = (rest_opens along.between more c.requires.1).0 in
    (g.0, g.1, g.2, rw (tail_part s c.loop-at.at) (here_inside along more c.look_at-sight.ensures c.if-place-next.true))

pub behind-requires : goal.behind-requires
behind-requires c =
    let along = c.loop-at.invariant in
    let more = c.loop-at-test.true in
    let s = c.args.s.now in
    let at = c.loop-at.at in
    short_step _ _ _ _ c.step_at.result c.step_at.ensures
    (omega (arith, along.between.inside, c.requires.1, length-take (length s - at) (drop at s), length-drop at s))

pub returns-then-place-next : goal.returns-then-place-next
returns-then-place-next c =
    let along = c.loop-at.invariant in
    let more = c.loop-at-test.true in
    let s = c.args.s.now in
    let at = c.loop-at.at in
    let r = c.step_at.result in
    let want = pick_in c.args.style c.args.place (tree_of s) in
    let wanted = along_here along more c.look_at-sight.ensures c.if-place-next.true in
    let done = rw (tail_part s at) at c.step_at.ensures in
    subst (λ (x : Option Step). StepDone want c.args.place s x) (sym c.behind.ensures)
    (behind_done want s along.low along.between.inside r (subst (λ (w : OptionOf Picked). StepDone w (c.args.place - at) (drop at s) r) (sym wanted) done))

pub loop-at-smaller : goal.loop-at-smaller
loop-at-smaller c =
    let along = c.loop-at.invariant in
    let more = c.loop-at-test.true in
    omega (arith, next_some along.between more c.look_at-sight.ensures, (next_between along.between more c.look_at-sight.ensures).inside)

pub loop-at-preserved : goal.loop-at-preserved
loop-at-preserved c =
    let along = c.loop-at.invariant in
    let more = c.loop-at-test.true in
    along_next along more c.look_at-sight.ensures c.if-place-next.false

pub returns : goal.returns
returns c = along_done c.loop-at.invariant c.loop-at-test.false
