-- The invariant of the loop is `Copied`, and a turn writes the node at the front of the rest into the part of the buffer that is lent
-- from the end of the last one on. Assumes nothing.
use mathlib.Core.Path.{sym}
use native.Mathlib.Omega.{arith}
use Rattle.std.proofs.lemmas.Bool.Decides.{nat_tests}
use Rattle.dvi_calls.proofs.Passing.{within_rest, less_left, copied_none, copied_room, copied_asks, copied_next, copied_all, never_stopped}
use Rattle.dvi_calls.proofs.transcribe.Goals as goal

pub loop-rest-init : goal.loop-rest-init
loop-rest-init g c = copied_none _ _ _ _

pub shape_of-out-in_default : goal.shape_of-out-in_default
shape_of-out-in_default g c = c.loop-rest.invariant.same

pub returns-in_default : goal.returns-in_default
returns-in_default g c = absurd (never_stopped c.loop-rest.invariant c.requires.room (grind (arith, nat_tests)) (sym (c.in_default.ensures)))

pub slice_bounds-put-count : goal.slice_bounds-put-count
slice_bounds-put-count g c = omega (arith, copied_room c.loop-rest.invariant c.requires.forms c.requires.room)

pub slice_bounds-put-start : goal.slice_bounds-put-start
slice_bounds-put-start g c = omega (arith, copied_room c.loop-rest.invariant c.requires.forms c.requires.room)

pub slice_bounds-put-end : goal.slice_bounds-put-end
slice_bounds-put-end g c = omega (arith, copied_room c.loop-rest.invariant c.requires.forms c.requires.room)

pub put-requires : goal.put-requires
put-requires g c = copied_asks c.loop-rest.invariant _ c.requires.forms c.requires.room (sym (c.in-Some.ensures))

pub slice_bounds-rest-count : goal.slice_bounds-rest-count
slice_bounds-rest-count g c = omega (arith, c.size.ensures, within_rest _ c.loop-rest.rest.now _ (sym (c.in-Some.ensures)))

pub slice_bounds-rest-start : goal.slice_bounds-rest-start
slice_bounds-rest-start g c = omega (arith, c.size.ensures, within_rest _ c.loop-rest.rest.now _ (sym (c.in-Some.ensures)))

-- what is written after a turn
pub loop-rest-preserved : goal.loop-rest-preserved
loop-rest-preserved g c =
    copied_next c.loop-rest.invariant _ c.requires.forms c.requires.room (sym (c.in-Some.ensures)) c.size.ensures c.size-end.ensures c.put.ensures

pub overflow_add-end : goal.overflow_add-end
overflow_add-end g c =
    let turn = copied_next c.loop-rest.invariant _ c.requires.forms c.requires.room (sym (c.in-Some.ensures)) c.size.ensures c.size-end.ensures c.put.ensures in
    omega (arith, copied_room turn c.requires.forms c.requires.room, turn.same)

pub loop-rest-smaller : goal.loop-rest-smaller
loop-rest-smaller g c = less_left _ c.loop-rest.rest.now _ (sym c.in-Some.ensures) c.size.ensures

pub shape_of-out : goal.shape_of-out
shape_of-out g c = c.loop-rest.invariant.same

pub returns : goal.returns
returns g c = copied_all c.loop-rest.invariant c.requires.forms c.requires.room (grind (arith, nat_tests))
