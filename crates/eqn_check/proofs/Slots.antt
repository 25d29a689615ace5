-- The slots of the levels that a pass keeps.
--     seen_window, slot_small     which levels are seen, and that each has a slot
--     Kept                        what the slots hold of the rows around the one that is read, and `kept_set` when one more is stored
-- Two levels share a slot only where both are unseen.
-- Assumes nothing.
use mathlib.Core.Path.{◌≡◌, refl, ◌∙◌}
use mathlib.Core.Bool.{Bool, true, false, cond}
use mathlib.Core.List.{List, [], ◌∷◌}
use mathlib.Core.Logic.{◌⊎◌, inl, inr, ⊎_elim}
use Prim.Native.Nat.{ℕ, ◌+◌, ◌-◌, ◌≤◌, ◌<◌}
use native.Mathlib.Omega.{arith}
use borrow.Author.Tests.{ltb-true, ltb-false, lt-ltb, le-ltb, eqb-true, eqb-false}
use lib.Dec.{ltb, eqb}
use lib.ListN.{length, get_or, set}
use lib.Seq.{get_or-set_same, get_or-set_other}
use Rattle.laws.specs.Truths.{by_test}
use Rattle.eqn_grammar.specs.Parsing.{Level}
use Rattle.eqn_check.specs.declared.stages.Stage.{Stage}
use Rattle.eqn_check.specs.declared.stages.Stage.TheVariants.{Unseen}
use Rattle.eqn_check.specs.Stages.{stage_of, seen_as, behind_primary}
use Rattle.eqn_check.specs.Windows.{levels, slot_of, is_seen}

-- what a slot says of its level: it is unseen, or stands so far above the base
abbrev SlotFor : ℕ → ℕ → ℕ → Type 0
SlotFor base d i = (i ≡ levels) ⊎ ((i + base ≡ d) × (i < levels))

slot_for : (base d : ℕ) → SlotFor base d (slot_of base d)
unfolding slot_of
slot_for base d = go (ltb d base) (ltb (d - base) levels) refl refl
  where
    go : (below inside : Bool) → ltb d base ≡ below → ltb (d - base) levels ≡ inside → SlotFor base d (cond below levels (cond inside (d - base) levels))
    go true inside e f = inl refl
    go false false e f = inl refl
    go false true e f = inr (omega (arith, ltb-false d base e), ltb-true (d - base) levels f)

pub slot_small : (r base d : ℕ) → r ≡ slot_of base d → r ≤ levels
slot_small r base d e = ⊎_elim (λ c. omega arith) (λ c. omega arith) (slot_for base d)

pub seen_window : (base d : ℕ) → base ≤ d → d < base + levels → is_seen base d ≡ true
unfolding slot_of
seen_window base d l m = rw (le-ltb d base l, lt-ltb (d - base) levels (omega arith)) (lt-ltb (d - base) levels (omega arith))

-- two levels that share a slot are unseen
slot_shared : (base d e : ℕ) → e < d → slot_of base e ≡ slot_of base d → (is_seen base e ≡ false) × (is_seen base d ≡ false)
slot_shared base d e l same =
    ⊎_elim (λ at-e. (le-ltb (slot_of base e) levels (omega arith), le-ltb (slot_of base d) levels (omega arith)))
    (λ at-e. ⊎_elim (λ at-d. absurd (omega arith)) (λ at-d. absurd (omega arith)) (slot_for base d)) (slot_for base e)

-- ---- the rows around

-- the slot of the level above some rows holds the stage of a row that is behind a group
abbrev pub Holds : ℕ → List Stage → Level → List Level → Type 0
Holds base A l ls = get_or A (slot_of base (length ls)) Unseen ≡ seen_as (is_seen base (length ls)) (behind_primary (stage_of l))

abbrev pub Kept : ℕ → List Stage → List Level → Type 0
Kept base A [] = Unit {0}
Kept base A (l ∷ ls) = Holds base A l ls × Kept base A ls

pub kept_set : (base d : ℕ) (A : List Stage) (v : Stage) (ls : List Level) → length ls ≤ d → slot_of base d < length A → Kept base A ls →
    Kept base (set A (slot_of base d) (seen_as (is_seen base d) v)) ls
kept_set base d A v [] l room k = tt
kept_set base d A v (r ∷ ls) l room k = (by_test (eqb slot stored) shared apart, kept_set base d A v ls (omega arith) room k.1)
  where
    slot : ℕ
    slot = slot_of base (length ls)

    stored : ℕ
    stored = slot_of base d

    shared : eqb slot stored ≡ true → Holds base (set A stored (seen_as (is_seen base d) v)) r ls
    shared e =
        let same = eqb-true slot stored e in
        let hidden = slot_shared base d (length ls) (omega arith) same in
        rw (hidden.0, hidden.1, same) (get_or-set_same A stored Unseen Unseen room)

    apart : eqb slot stored ≡ false → Holds base (set A stored (seen_as (is_seen base d) v)) r ls
    apart e = get_or-set_other A stored slot _ Unseen (eqb-false _ _ e) ∙ k.0
