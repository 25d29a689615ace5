-- The symbols of a search, as the code goes from one to the next.
--     chain_absent, chain_last, chain_cut, chain_step    a chain, by what its first symbol says
--     in_text_lem, in_sizes_lem    a symbol in text size, and in a smaller one and those up from it
-- Assumes nothing.
use mathlib.Core.Path.{◌≡◌, refl, ◌∙◌}
use mathlib.Core.List.{[], ◌∷◌, ◌++◌}
use mathlib.Core.Option.{none, some}
use Prim.Native.Nat.{ℕ, zero, suc, ◌-◌, ◌<◌}
use native.Mathlib.Omega.{arith}
use Rattle.font.specs.Font.{Metrics, Font}
use Rattle.font.specs.Chains.{longest_chain}
use Rattle.delimiters.specs.Delimiters.{Sign, chain_by, chain, in_sizes}
use Rattle.delimiters.specs.DelimiterLaws.{chain_begins}

-- ---- a chain

module _ (F : Font) (size family : ℕ) where
  pub chain_absent : (steps code : ℕ) → F.symbol size family code ≡ none → chain F size family steps code ≡ []
  unfolding chain_by
  chain_absent steps code is = chain_begins F size family steps code ∙ rw is

  abbrev pub sign_of : ℕ → Metrics → Sign
  sign_of code m = record { size = size; family = family; code = code; metrics = m }

  module _ (code : ℕ) (m : Metrics) (is : F.symbol size family code ≡ some m) where
    pub chain_last : (steps : ℕ) → m.successor ≡ none → chain F size family steps code ≡ sign_of code m ∷ []
    unfolding chain_by
    chain_last steps last = chain_begins F size family steps code ∙ rw (is, last)

    pub chain_step : (steps next : ℕ) → 0 < steps → m.successor ≡ some next →
        chain F size family steps code ≡ sign_of code m ∷ chain F size family (steps - 1) next
    unfolding chain_by
    chain_step zero next more goes = absurd (omega arith)
    chain_step (suc steps) next more goes =
        let left : suc steps - 1 ≡ steps = omega arith in
        chain_begins F size family (suc steps) code ∙ rw (is, goes, left)

    -- no step is left
    pub chain_cut : (next : ℕ) → m.successor ≡ some next → chain F size family 0 code ≡ sign_of code m ∷ []
    unfolding chain_by
    chain_cut next goes = chain_begins F size family 0 code ∙ rw (is, goes)

-- the ways of `follow`
pub ruleset chain_ways = (chain_absent, chain_last, chain_cut, chain_step)

-- ---- a symbol in its sizes

module _ (F : Font) (family code : ℕ) where
  pub in_text_lem : (size : ℕ) → size ≡ 0 → in_sizes F family code size ≡ chain F size family longest_chain code
  unfolding in_sizes
  in_text_lem zero is = refl
  in_text_lem (suc size) is = absurd (omega arith)

  pub in_sizes_lem : (size : ℕ) → 0 < size → in_sizes F family code size ≡ chain F size family longest_chain code ++ in_sizes F family code (size - 1)
  unfolding in_sizes
  in_sizes_lem zero more = absurd (omega arith)
  in_sizes_lem (suc size) more = let left : suc size - 1 ≡ size = omega arith in rw left

-- the ways of `search_sizes`
pub ruleset size_ways = (in_text_lem, in_sizes_lem)
