-- `next_class` meets its contract. The loop's invariant: no atom stands before `at` (`Passing`). The measure is what is left of the list.
-- Assumes nothing.
use Rattle.std.proofs.Common.{arith}
use Rattle.walk_looks.specs.PlaceLaws.{rest_opens, next_some, passing_start, passed, atom_next, finished}
use Rattle.walk_looks.proofs.places.next_class.Goals as goal

pub loop-at-init : goal.loop-at-init
loop-at-init c = passing_start _ _ _ c.requires.0

pub look_at-sight-requires : goal.look_at-sight-requires
look_at-sight-requires c = (rest_opens c.loop-at.invariant.place c.loop-at-test.true c.requires.1).0

pub returns-in-Some : goal.returns-in-Some
returns-in-Some c = atom_next c.loop-at.invariant c.loop-at-test.true c.look_at-sight.ensures c.in-Some.is

-- it is no atom
pub loop-at-preserved : goal.loop-at-preserved
loop-at-preserved c = passed c.loop-at.invariant c.loop-at-test.true c.look_at-sight.ensures c.in_default.is

pub overflow_add-at : goal.overflow_add-at
overflow_add-at c =
    let next = passed c.loop-at.invariant c.loop-at-test.true c.look_at-sight.ensures c.in_default.is in
    omega (arith, next.place.inside)

pub loop-at-smaller : goal.loop-at-smaller
loop-at-smaller c =
    omega (arith, next_some c.loop-at.invariant.place c.loop-at-test.true c.look_at-sight.ensures)

pub returns : goal.returns
returns c = finished c.loop-at.invariant c.loop-at-test.false
