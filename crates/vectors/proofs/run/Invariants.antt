-- The loop goes from case to case, so many at most; both tables lie in their buffers, whose lengths stay.
use Rattle.std.proofs.Common.{◌≡◌, ◌≤◌, length}
use Rattle.vectors.proofs.run.Given as goal

abbrev pub invariant-loop : goal.invariant-loop
invariant-loop g l =
    (l.ours ≤ length l.table) × (l.theirs ≤ length l.client)
    × (length l.table ≡ length l.initial.table) × (length l.client ≡ length l.initial.client) × (length l.formula ≡ length l.initial.formula)
