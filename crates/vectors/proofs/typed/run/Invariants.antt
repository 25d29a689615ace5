-- The loop goes from case to case, so many at most; the name table lies in its buffer, and the buffers' lengths stay.
use Rattle.std.proofs.Common.{◌≡◌, ◌≤◌, length}
use Rattle.vectors.proofs.typed.run.Given as goal

abbrev pub invariant-loop : goal.invariant-loop
invariant-loop g l =
    (l.named ≤ length l.names) × (length l.names ≡ length l.initial.names) × (length l.bytes ≡ length l.initial.bytes)
    × (length l.res ≡ length l.initial.res)
