-- How far a run reaches, by the code's test of its count: for the methods of `Run`.
--     marked_some           a mark that is not 0
--     some_count            a choice by a count that is not 0
--     of_none, of_some      there is no node; there is one, and the hull has the run's ends
-- Assumes nothing.
use mathlib.Core.Path.{◌≡◌, refl}
use mathlib.Core.Bool.{true}
use Prim.Native.Nat.{ℕ, zero, suc}
use Rattle.nodes.specs.Hull.{Hull, none, around}
use Rattle.nodes.specs.Values.{hull_of, marked}
use Rattle.nodes.specs.declared.run.Run.{Run}

-- what the lengths say, whatever the count is
abbrev pub ends : Run → Hull
ends r = around r.left.0 r.right.0 r.bottom.0 r.top.0

pub some_count : (n : ℕ) (h : Hull) → (n ≡ 0 → ⊥) → (elim n [ zero ↦ none | suc m ↦ h ]) ≡ h
some_count zero h some = absurd (some refl)
some_count (suc m) h some = refl

pub marked_some : (n : ℕ) → (n ≡ 0 → ⊥) → marked n ≡ true
marked_some zero some = absurd (some refl)
marked_some (suc m) some = refl

module _ (r : Run) where
  pub of_none : r.count ≡ 0 → hull_of r ≡ none
  of_none e = rw e

  pub of_some : (r.count ≡ 0 → ⊥) → hull_of r ≡ ends r
  of_some some = some_count r.count (ends r) some
