-- What has been passed from the start of an expression are whole tokens, and the first expression of all is they and that of the rest (`Going`).
-- The measure is what is left.
-- Assumes nothing.
use mathlib.Core.Path.{◌≡◌}
use mathlib.Core.Bool.{Bool, true}
use mathlib.Core.List.{List}
use Prim.Native.Nat.{ℕ, ◌≤◌, ◌<◌}
use lib.ListN.{drop}
use Rattle.eqn_tokens.specs.Tokens.{tokens_in}
use Rattle.eqn_grammar.specs.Splits.{first_from, first_expression}
use Rattle.eqn_cuts.specs.Values.{EndsToken}
use Rattle.eqn_cuts.specs.CutLaws.{between, Boundary}
use Rattle.eqn_grammar.specs.SplitLaws.{in_front}
use Prim.Native.Nat.{◌-◌}
use lib.ListN.{length}
use Rattle.eqn_cuts.proofs.expression_end.Given as goal

pub record Going (s : List ℕ) (from at level : ℕ) (ended : Bool) : Type 0 where
  pub boundary : Boundary s from at
  pub low : level ≤ at
  pub begun : ended ≡ true → from < at
  pub tight : from < at → at < length s → EndsToken s at
  pub so_far : first_expression (tokens_in (drop from s)) ≡ in_front (tokens_in (between s from at)) (first_from level ended (tokens_in (drop at s)))

abbrev pub invariant-loop-at : goal.invariant-loop-at
invariant-loop-at l = Going l.s l.from l.at l.level l.ended

abbrev pub decreases-loop-at : goal.decreases-loop-at
decreases-loop-at l = length l.s - l.at
