-- What the search promises.
--     found_anyway    whatever has to be reached, it finds something exactly if there is any symbol to look at
--     chain_whole     in good tables no chain is cut: with more than sixteen steps it would be the same
--     chain_begins    a chain by its first symbol
-- Assumes nothing.
use Rattle.std.proofs.Math.Path.{◌≡◌, refl, ap}
use Rattle.std.proofs.Common.{sym, ◌∙◌, arith}
use Rattle.std.specs.Prelude.{Bool, true, false, ℤ}
use mathlib.Core.List.{List, [], ◌∷◌}
use Rattle.std.proofs.Math.Option.{Option, none, some}
use Prim.Native.Nat.{ℕ, zero, suc, ◌≤◌}
use Rattle.font.specs.Font.{Metrics, Font, font_with}
use Rattle.font.specs.Chains.{longest_chain, next, goes_on}
use Rattle.font.specs.Table.{good_table, good_client}
use Rattle.font.specs.FontLaws.{chains_end}
use Rattle.formula.specs.declared.Delimiter.{Delimiter}
use Rattle.delimiters.specs.declared.HasSigns.{HasSigns}
use Rattle.delimiters.specs.Delimiters.{Sign, from_next, chain_by, chain, candidates, first_enough, tallest, taken, sign_for, has_any, has_sign, Signs}

abbrev pub is_found : Option Sign → Bool
is_found none = false
is_found (some s) = true

abbrev pub which_found : Signs → HasSigns
which_found s = record { before = is_found s.before; behind = is_found s.behind }

taken_any : (needed : ℤ) (l : List Sign) → is_found (taken needed l) ≡ has_any l
unfolding taken has_any
taken_any needed [] = refl
taken_any needed (s ∷ l) = go (first_enough needed (s ∷ l))
  where
    go : (first : Option Sign) → is_found (elim first [ some enough ↦ some enough | none ↦ some (tallest s l) ]) ≡ true
    go none = refl
    go (some enough) = refl

pub found_anyway : (F : Font) (size : ℕ) (d : Delimiter) (needed : ℤ) → is_found (sign_for F size d needed) ≡ has_sign F size d
unfolding sign_for has_sign
found_anyway F size d needed = taken_any needed (candidates F size d)

-- ---- chains

module _ (F : Font) (size family : ℕ) where
  -- the steps behind a chain's first symbol
  abbrev pub behind : ℕ → ℕ → List Sign
  behind zero = λ code. []
  behind (suc steps) = chain F size family steps

  pub chain_begins : (steps code : ℕ) →
      chain F size family steps code ≡ chain_by size family (behind steps) code (F.symbol size family code)
  unfolding chain
  chain_begins zero code = refl
  chain_begins (suc steps) code = refl

  module _ (k n : ℕ) (same : (code : ℕ) → goes_on F size family k (F.symbol size family code) ≡ false → behind n code ≡ behind k code) where
    -- from a symbol no step leads on, or the chains behind it are the same
    same_behind : (s : Option ℕ) → goes_on F size family k (elim s [ none ↦ none | some code ↦ F.symbol size family code ]) ≡ false →
        from_next (behind n) s ≡ from_next (behind k) s
    same_behind none ends = refl
    same_behind (some code) ends = same code ends

    same_chain : (code : ℕ) (m : Option Metrics) → goes_on F size family (suc k) m ≡ false →
        chain_by size family (behind n) code m ≡ chain_by size family (behind k) code m
    unfolding chain_by goes_on next
    same_chain code none ends = refl
    same_chain code (some m) ends =
        let first : Sign = record { size = size; family = family; code = code; metrics = m } in
        ap (λ (l : List Sign). first ∷ l) (same_behind m.successor ends)

  -- from a symbol that is absent there is none
  no_chain : (n code : ℕ) (m : Option Metrics) → goes_on F size family 0 m ≡ false → chain_by size family (behind n) code m ≡ []
  unfolding chain_by goes_on
  no_chain n code none ends = refl
  no_chain n code (some m) ends = let clash : ◌≡◌ {A = ℕ} 0 1 = cc in absurd (omega arith)

  -- where a chain ends within k steps, no more are taken
  no_further : (k n code : ℕ) → k ≤ n → goes_on F size family k (F.symbol size family code) ≡ false → behind n code ≡ behind k code
  no_further zero zero code more ends = refl
  no_further zero (suc n) code more ends = chain_begins n code ∙ no_chain n code (F.symbol size family code) ends
  no_further (suc k) zero code more ends = absurd (omega arith)
  no_further (suc k) (suc n) code more ends =
      chain_begins n code
      ∙ same_chain k n (λ c. no_further k n c (omega arith)) code (F.symbol size family code) ends
      ∙ sym (chain_begins k code)

pub chain_whole : (t c : List ℕ) → good_table t ≡ true → good_client t c ≡ true → (size family steps code : ℕ) → longest_chain ≤ steps →
    chain (font_with t c) size family steps code ≡ chain (font_with t c) size family longest_chain code
chain_whole t c good client size family steps code more =
    no_further (font_with t c) size family (suc longest_chain) (suc steps) code (omega arith) (chains_end t c good client size family code)
