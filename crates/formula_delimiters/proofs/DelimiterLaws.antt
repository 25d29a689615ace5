-- What opens behind a delimiter, by the number of the bytes.
--     behind_none, behind_said    with fewer than four, and with four
--     fence_none, fence_said      a fence, which has two
-- Assumes nothing.
use mathlib.Core.Path.{◌≡◌, refl, ap, ◌∙◌}
use mathlib.Core.List.{List, [], ◌∷◌}
use Prim.Native.Nat.{ℕ, ◌≤◌, ◌<◌}
use native.Mathlib.Omega.{arith}
use lib.ListN.{length, drop, length-drop}
use lib.Seq.{get_or-drop}
use Rattle.formula.specs.declared.Delimiter.{Delimiter}
use Rattle.formula.specs.declared.Opening.{Opening}
use Rattle.formula.specs.declared.Opening.TheVariants.{NoItem}
use Rattle.formula.specs.Heads.{delimiter, behind_delimiter, fence_of, fence_opening}
use Rattle.formula.specs.Slices.{delimiter_at}
use Rattle.formula.specs.FirstBytes.{four, short_four}

module _ (opening : Delimiter → List ℕ → Opening) where
  pub behind_none : (s : List ℕ) → length s < 4 → behind_delimiter opening s ≡ NoItem
  unfolding behind_delimiter
  behind_none = short_four (behind_delimiter opening) NoItem refl (λ a. refl) (λ a b. refl) (λ a b c. refl)

  pub behind_said : (s : List ℕ) → 4 ≤ length s → behind_delimiter opening s ≡ opening (delimiter_at s 0) (drop 4 s)
  unfolding behind_delimiter
  behind_said s h = ap (behind_delimiter opening) (four s h)

pub fence_none : (s : List ℕ) → length s < 8 → fence_opening s ≡ NoItem
unfolding fence_opening behind_delimiter
fence_none [] h = refl
fence_none (a ∷ []) h = refl
fence_none (a ∷ b ∷ []) h = refl
fence_none (a ∷ b ∷ c ∷ []) h = refl
fence_none (a ∷ b ∷ c ∷ d ∷ s) h = behind_none (λ right q. fence_of (delimiter a b c d) right) s (omega arith)

pub fence_said : (s : List ℕ) → 8 ≤ length s → fence_opening s ≡ fence_of (delimiter_at s 0) (delimiter_at s 4)
unfolding fence_opening
fence_said s h =
    behind_said _ s (omega arith) ∙ behind_said _ (drop 4 s) (omega (arith, length-drop 4 s)) ∙ simp get_or-drop
