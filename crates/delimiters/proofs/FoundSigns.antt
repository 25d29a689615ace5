-- What the search takes is a symbol of the font.
--     sign_there    the one that is taken is there
-- Assumes nothing.
use Rattle.std.specs.Prelude.{◌≡◌, Bool, ◌&&◌, ℤ}
use Rattle.std.proofs.Math.Path.{refl}
use Rattle.std.proofs.Math.Bool.{true, false}
use mathlib.Core.List.{List, [], ◌∷◌, ◌++◌}
use Rattle.std.proofs.Math.Option.{Option, none, some}
use Prim.Native.Nat.{ℕ, zero, suc}
use Rattle.std.proofs.Math.Dec.{eqb}
use Rattle.std.specs.Int.Signed.{lt_z}
use Rattle.font.specs.Font.{Metrics, Font}
use Rattle.font.specs.Chains.{longest_chain}
use Rattle.formula.specs.declared.Pair.{Pair}
use Rattle.formula.specs.declared.Delimiter.{Delimiter}
use Rattle.delimiters.specs.Delimiters.{Sign, from_next, chain_by, chain, in_sizes, of_pair, candidates, extent, first_enough, taller, tallest, taken, sign_for}
use Rattle.delimiters.specs.FoundSigns.{There, IfThere}

module _ (F : Font) where
  abbrev AllThere : List Sign → Type 0
  AllThere [] = Unit {0}
  AllThere (s ∷ l) = There F s × AllThere l

  append_there : (k l : List Sign) → AllThere k → AllThere l → AllThere (k ++ l)
  append_there [] l a b = b
  append_there (s ∷ k) l a b = (a.0, append_there k l a.1 b)

  -- ---- every symbol that is looked at

  module _ (size family : ℕ) where
    module _ (behind : ℕ → List Sign) (all : (code : ℕ) → AllThere (behind code)) where
      next_there : (o : Option ℕ) → AllThere (from_next behind o)
      next_there none = tt
      next_there (some code) = all code

      first_there_lem : (code : ℕ) (m : Option Metrics) → F.symbol size family code ≡ m → AllThere (chain_by size family behind code m)
      unfolding chain_by
      first_there_lem code none is = tt
      first_there_lem code (some m) is = (is, next_there m.successor)

    chain_there : (steps code : ℕ) → AllThere (chain F size family steps code)
    unfolding chain
    chain_there zero code = first_there_lem (λ successor. []) (λ successor. tt) code (F.symbol size family code) refl
    chain_there (suc steps) code = first_there_lem (chain F size family steps) (chain_there steps) code (F.symbol size family code) refl

  sizes_there : (family code size : ℕ) → AllThere (in_sizes F family code size)
  unfolding in_sizes
  sizes_there family code zero = chain_there 0 family longest_chain code
  sizes_there family code (suc size) =
      append_there (chain F (suc size) family longest_chain code) (in_sizes F family code size)
      (chain_there (suc size) family longest_chain code)
      (sizes_there family code size)

  pair_there : (size : ℕ) (p : Pair) → AllThere (of_pair F size p)
  unfolding of_pair
  pair_there size p = go (eqb p.family 0 && eqb p.code 0)
    where
      go : (passed : Bool) → AllThere (elim passed [ true ↦ [] | false ↦ in_sizes F p.family p.code size ])
      go true = tt
      go false = sizes_there p.family p.code size

  candidates_there : (size : ℕ) (d : Delimiter) → AllThere (candidates F size d)
  unfolding candidates
  candidates_there size d =
      append_there (of_pair F size d.small) (of_pair F size d.large) (pair_there size d.small) (pair_there size d.large)

  -- ---- the one that is taken

  enough_there : (needed : ℤ) (l : List Sign) → AllThere l → IfThere F (first_enough needed l)
  unfolding first_enough
  enough_there needed [] all = tt
  enough_there needed (s ∷ l) all = go (lt_z (extent s) needed) (enough_there needed l all.1)
    where
      go : (short : Bool) → IfThere F (first_enough needed l) → IfThere F (elim short [ true ↦ first_enough needed l | false ↦ some s ])
      go true rest = rest
      go false rest = all.0

  taller_there : (a b : Sign) → There F a → There F b → There F (taller a b)
  unfolding taller
  taller_there a b at_a at_b = go (lt_z (extent a) (extent b))
    where
      go : (shorter : Bool) → There F (elim shorter [ true ↦ b | false ↦ a ])
      go true = at_b
      go false = at_a

  tallest_there : (s : Sign) (l : List Sign) → There F s → AllThere l → There F (tallest s l)
  unfolding tallest
  tallest_there s [] there all = there
  tallest_there s (t ∷ l) there all = tallest_there (taller s t) l (taller_there s t there all.0) all.1

  taken_there : (needed : ℤ) (l : List Sign) → AllThere l → IfThere F (taken needed l)
  unfolding taken
  taken_there needed [] all = tt
  taken_there needed (s ∷ l) all = go (first_enough needed (s ∷ l)) (enough_there needed (s ∷ l) all)
    where
      go : (first : Option Sign) → IfThere F first → IfThere F (elim first [ some enough ↦ some enough | none ↦ some (tallest s l) ])
      go none there = tallest_there s l all.0 all.1
      go (some enough) there = there

  pub sign_there : (size : ℕ) (d : Delimiter) (needed : ℤ) → IfThere F (sign_for F size d needed)
  unfolding sign_for
  sign_there size d needed = taken_there needed (candidates F size d) (candidates_there size d)
