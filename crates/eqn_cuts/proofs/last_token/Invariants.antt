-- What has been passed are whole tokens, and the last of them stands at the place that is kept (`LastBefore`). The measure is what is left.
-- Assumes nothing.
use mathlib.Core.Path.{◌≡◌}
use mathlib.Core.List.{List, [], drop_last}
use mathlib.Core.Logic.{◌⊎◌}
use Prim.Native.Nat.{ℕ, ◌≤◌}
use lib.ListN.{take}
use Rattle.eqn_tokens.specs.Tokens.{tokens_in, place_in}
use Rattle.eqn_cuts.specs.CutLaws.{between, Boundary}
use Prim.Native.Nat.{◌-◌}
use lib.ListN.{length}
use Rattle.eqn_cuts.proofs.last_token.Given as goal

-- there is no token before a place, and then none was found; or the last one found starts at its own place
abbrev pub LastFound : List ℕ → ℕ → ℕ → Type 0
LastFound s at last =
    ((tokens_in (between s 0 at) ≡ []) × (last ≡ 0)) ⊎ ((tokens_in (between s 0 at) ≡ [] → ⊥) × (last ≡ place_in (length (tokens_in (take last s))) s))

pub record LastBefore (s : List ℕ) (at last : ℕ) : Type 0 where
  pub boundary : Boundary s 0 at
  pub within : last ≤ length s
  pub before : drop_last (tokens_in (between s 0 at)) ≡ tokens_in (take last s)
  pub found : LastFound s at last

abbrev pub invariant-loop-at : goal.invariant-loop-at
invariant-loop-at l = LastBefore l.s l.at l.last

abbrev pub decreases-loop-at : goal.decreases-loop-at
decreases-loop-at l = length l.s - l.at
