-- The invariant of the loop of `move_front` is `Moving`.
-- Assumes nothing.
use Rattle.nodes.proofs.Moves.{Moving}
use Rattle.nodes.proofs.move_front.Given as goal

abbrev pub invariant-loop-i : goal.invariant-loop-i
invariant-loop-i l = Moving l.right l.up l.count l.initial.buf l.buf l.i
