-- The search as it goes is the one that is defined.
--     judged_by, taller_by          a test whose outcome is known: the ways of `judged` and `taller`
--     looked_enough, looked_both    a search that has ended; two lists, one behind the other
--     looked_taken                  what it has found in the end
-- Assumes nothing.
use mathlib.Core.Path.{◌≡◌, refl, ap}
use mathlib.Core.Bool.{Bool, true, false}
use mathlib.Core.List.{List, [], ◌∷◌, ◌++◌}
use mathlib.Core.Option.{Option, none, some}
use lib.IntN.{ℤ}
use lib.Signed.{lt_z}
use Rattle.delimiters.specs.Delimiters.{Sign, extent, first_enough, taller, tallest, taken}
use Rattle.delimiters.specs.Looking.{Looked, nothing, short, enough, judged, look, looked_at, outcome}

-- ---- a test whose outcome is known

pub judged_by : (needed : ℤ) (s t : Sign) {b : Bool} → lt_z (extent s) needed ≡ b →
    judged needed s t ≡ elim b [ true ↦ short t | false ↦ enough s ]
unfolding judged
judged_by needed s t is = ap (λ (b : Bool). elim b as (λ x. Looked) [ true ↦ short t | false ↦ enough s ]) is

pub taller_by : (a b : Sign) {c : Bool} → lt_z (extent a) (extent b) ≡ c → taller a b ≡ elim c [ true ↦ b | false ↦ a ]
unfolding taller
taller_by a b is = ap (λ (c : Bool). elim c as (λ x. Sign) [ true ↦ b | false ↦ a ]) is

-- ---- symbol by symbol

module _ (needed : ℤ) where
  pub looked_enough : (e : Sign) (l : List Sign) → looked_at needed (enough e) l ≡ enough e
  unfolding looked_at look
  looked_enough e [] = refl
  looked_enough e (s ∷ l) = looked_enough e l

  pub looked_both : (far : Looked) (a b : List Sign) → looked_at needed far (a ++ b) ≡ looked_at needed (looked_at needed far a) b
  unfolding looked_at
  looked_both far [] b = refl
  looked_both far (s ∷ a) b = looked_both (look needed far s) a b

  -- the first that suffices, or else the tallest, t at first
  abbrev or_tallest : Sign → List Sign → Option Sign → Option Sign
  or_tallest t l first = elim first [ some s ↦ some s | none ↦ some (tallest t l) ]

  -- s is looked at, t is the tallest then, and those of l come behind it
  judged_taken : (s t : Sign) (l : List Sign) → (outcome (looked_at needed (short t) l) ≡ or_tallest t l (first_enough needed l)) →
      outcome (looked_at needed (judged needed s t) l) ≡ or_tallest t l (first_enough needed (s ∷ l))
  unfolding judged first_enough
  judged_taken s t l behind = go (lt_z (extent s) needed)
    where
      go : (b : Bool) →
          outcome (looked_at needed (elim b [ true ↦ short t | false ↦ enough s ]) l)
          ≡ or_tallest t l (elim b [ true ↦ first_enough needed l | false ↦ some s ])
      go true = behind
      go false = rw (looked_enough s l)

  short_taken : (t : Sign) (l : List Sign) → outcome (looked_at needed (short t) l) ≡ or_tallest t l (first_enough needed l)
  unfolding looked_at look first_enough tallest
  short_taken t [] = refl
  short_taken t (s ∷ l) = judged_taken s (taller t s) l (short_taken (taller t s) l)

  pub looked_taken : (l : List Sign) → outcome (looked_at needed nothing l) ≡ taken needed l
  unfolding looked_at look taken
  looked_taken [] = refl
  looked_taken (s ∷ l) = judged_taken s s l (short_taken s l)
