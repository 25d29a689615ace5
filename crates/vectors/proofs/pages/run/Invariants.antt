-- The loop goes from case to case, so many at most; the lengths of both buffers stay.
use Rattle.std.proofs.Common.{◌≡◌, length}
use Rattle.vectors.proofs.pages.run.Given as goal

abbrev pub invariant-loop : goal.invariant-loop
invariant-loop g l = (length l.bytes ≡ length l.initial.bytes) × (length l.res ≡ length l.initial.res)
