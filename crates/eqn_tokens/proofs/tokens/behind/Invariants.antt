use Rattle.std.proofs.Common.{ℕ, true, ◌≤◌, ◌<◌, get_or}
use Rattle.eqn_tokens.proofs.tokens.behind.Given as goal

abbrev pub invariant-loop-i : goal.invariant-loop-i
invariant-loop-i g l = (k : ℕ) → l.at ≤ k → k < l.i → g.F.Fn.post l.is_of_kind (get_or l.s k 0, tt) true
