-- Chains, as the code follows them.
--     goes_none, goes_last, goes_step    from an absent symbol, from the last of a chain, from one with a successor: the ways of `goes_on`
--     flagged_ends    the chain of a record with the flag
-- Assumes nothing.
use mathlib.Core.Path.{◌≡◌, refl, ◌∙◌}
use mathlib.Core.Bool.{false, not}
use mathlib.Core.List.{List}
use mathlib.Core.Option.{none, some}
use Prim.Native.Nat.{ℕ, zero, suc, ◌-◌, ◌<◌}
use native.Mathlib.Omega.{arith}
use Rattle.font.specs.Records.{size_byte, family_byte, flag_byte, successor_byte}
use Rattle.font.specs.Font.{Metrics, Font, metrics_of}
use Rattle.font.specs.Chains.{longest_chain, next, goes_on, chain_ends}
use Rattle.font.specs.MetricsLaws.{successor_some}

-- ---- a step

module _ (F : Font) (size family : ℕ) where
  pub goes_none : (n : ℕ) → goes_on F size family n none ≡ false
  unfolding goes_on
  goes_none zero = refl
  goes_none (suc n) = refl

  goes_next : (n : ℕ) (m : Metrics) → 0 < n → goes_on F size family n (some m) ≡ goes_on F size family (n - 1) (next F size family m)
  unfolding goes_on
  goes_next zero m h = absurd (omega arith)
  goes_next (suc n) m h = let left : suc n - 1 ≡ n = omega arith in rw left

  pub goes_last : (n : ℕ) (m : Metrics) → 0 < n → m.successor ≡ none → goes_on F size family n (some m) ≡ false
  unfolding next
  goes_last n m h is = goes_next n m h ∙ rw is (goes_none (n - 1))

  pub goes_step : (n : ℕ) (m : Metrics) (code : ℕ) → 0 < n → m.successor ≡ some code →
      goes_on F size family n (some m) ≡ goes_on F size family (n - 1) (F.symbol size family code)
  unfolding next
  goes_step n m code h is = goes_next n m h ∙ rw is

-- ---- the chain that starts at a record

module _ (F : Font) (r : List ℕ) where
  pub flagged_ends : flag_byte r ≡ 1 →
      chain_ends F r ≡ not (goes_on F (size_byte r) (family_byte r) longest_chain (F.symbol (size_byte r) (family_byte r) (successor_byte r)))
  unfolding chain_ends goes_on next metrics_of
  flagged_ends h = rw (successor_some r h)
