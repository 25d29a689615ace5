-- What has been passed are whole tokens, and the two sides of the keyword in all are those in the rest, or else those found so far (`Passing`).
-- The measure is what is left.
-- Assumes nothing.
use mathlib.Core.Path.{◌≡◌}
use mathlib.Core.Bool.{Bool, true, false}
use mathlib.Core.List.{List, ◌++◌}
use mathlib.Core.Option.{Option, none, some}
use Prim.Native.Nat.{ℕ, ◌≤◌, ◌<◌}
use lib.Dec.{ltb}
use lib.ListN.{take, drop}
use Rattle.eqn_tokens.specs.Tokens.{Token, tokens_in}
use Rattle.eqn_grammar.specs.Splits.{last_from, last_outside}
use Rattle.eqn_cuts.specs.Values.{StandsAt}
use Rattle.eqn_cuts.specs.CutLaws.{between, Boundary}
use Rattle.eqn_tokens.specs.declared.tokens.Keyword.{Keyword}
use Prim.Native.Nat.{◌-◌}
use lib.ListN.{length}
use Rattle.eqn_cuts.proofs.last_outside.Given as goal

abbrev pub TwoSides : Type 0
TwoSides = List Token × List Token

-- parts that are found, or else what has been found
abbrev pub or_else : Bool → TwoSides → Option TwoSides → Option TwoSides
or_else true p found = some p
or_else false p found = found

-- what is found in all, by what is found in the rest behind some tokens
abbrev pub latest : List Token → Option TwoSides → Option TwoSides → Option TwoSides
latest front found (some p) = some (front ++ p.0, p.1)
latest front found none = found

-- the parts at a keyword that starts before the end of the text
abbrev pub sides_at : List ℕ → ℕ → ℕ → Option TwoSides
sides_at s start end = or_else (ltb start (length s)) (tokens_in (take start s), tokens_in (drop end s)) none

pub record Passing (s : List ℕ) (j : Keyword) (at level start end : ℕ) : Type 0 where
  pub boundary : Boundary s 0 at
  pub low : level ≤ at
  pub ordered : start ≤ end
  pub within : end ≤ length s
  pub stands : start < length s → StandsAt s j start end
  pub so_far : last_outside j (tokens_in s) ≡ latest (tokens_in (between s 0 at)) (sides_at s start end) (last_from j level (tokens_in (drop at s)))

abbrev pub invariant-loop-at : goal.invariant-loop-at
invariant-loop-at l = Passing l.s l.keyword l.at l.level l.start l.end

abbrev pub decreases-loop-at : goal.decreases-loop-at
decreases-loop-at l = length l.s - l.at
