-- The symbol's record can be nowhere but in the range that is left, and the steps that are left are enough for it (`Halved`); the measure is
-- the length of the range.
-- Assumes nothing.
use Prim.Native.Nat.{◌-◌}
use Rattle.font.proofs.KeyLaws.{number}
use Rattle.font_search.proofs.HalvingLaws.{Halved}
use Rattle.font_search.proofs.record_in.Given as goal

abbrev pub invariant-loop-from : goal.invariant-loop-from
invariant-loop-from l = Halved l.s (number l.fn.key) l.from l.to l.steps

abbrev pub decreases-loop-from : goal.decreases-loop-from
decreases-loop-from l = l.to - l.from
