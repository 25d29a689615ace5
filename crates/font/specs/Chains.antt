-- Chains of successors (request 3): from a symbol to a variant of it, and on, sixteen steps at most.
--     next         a step of a chain
--     goes_on       whether so many steps can be taken
--     chain_ends    whether the chain that starts at a record is of sixteen steps at most
-- Assumes nothing.
use Rattle.std.specs.Prelude.{Bool, true, false, not, List, ℕ, zero, suc}
use Rattle.std.proofs.Math.Option.{Option, none, some}
use Rattle.font.specs.Records.{size_byte, family_byte}
use Rattle.font.specs.Font.{Metrics, Font, metrics_of}

abbrev pub longest_chain : ℕ
longest_chain = 16

module _ (F : Font) (size family : ℕ) where
  -- to the successor, a symbol of the same size and family, if the flag is set and that symbol is present
  unfoldable pub next : Metrics → Option Metrics
  next m = elim m.successor [ none ↦ none | some code ↦ F.symbol size family code ]

  -- n steps from a symbol, each to a symbol present
  unfoldable pub goes_on : ℕ → Option Metrics → Bool
  goes_on zero none = false
  goes_on zero (some m) = true
  goes_on (suc n) none = false
  goes_on (suc n) (some m) = goes_on n (next m)

-- a table is refused, with number 2, if from any of its records seventeen steps can be taken
unfoldable pub chain_ends : Font → List ℕ → Bool
chain_ends F r = not (goes_on F (size_byte r) (family_byte r) (suc longest_chain) (some (metrics_of r)))
