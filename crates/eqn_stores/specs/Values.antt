-- What the code's values stand for, and what its functions promise.
--     Ends            a place up to which a formula has been written
--     ListClosed      the opening of a list before its items, which have been moved if the list is long
-- Assumes nothing.
use Rattle.std.specs.Prelude.{◌≡◌, List, ℕ, ◌+◌, ◌-◌, ◌≤◌, ◌<◌, take, drop, Option, Some, None}
use Rattle.std.proofs.lemmas.List.Edits.{sets}
use Rattle.formula.specs.Tree.{greatest_short}
use Rattle.formula.specs.Format.{formula_limit}
use Rattle.formula_spelling.specs.Spelling.{list_opening}

abbrev pub Ends : ℕ → Option ℕ → Type 0
Ends end (Some e) = (e ≡ end) × (end ≤ formula_limit)
Ends end None = formula_limit < end

-- the opening of a list whose items stand three bytes behind `at`; those of a long list have been moved
pub record ShortClosed (before : List ℕ) (at end : ℕ) (after : List ℕ) (r : Option ℕ) : Type 0 where
  pub ends : Ends end r
  pub stored : after ≡ sets before at (list_opening (end - (at + 3)))

pub record LongClosed (before : List ℕ) (at end : ℕ) (after : List ℕ) (r : Option ℕ) : Type 0 where
  pub ends : Ends (end + 2) r
  pub stored : after ≡ sets (sets before (at + 5) (take (end - (at + 3)) (drop (at + 3) before))) at (list_opening (end - (at + 3)))

abbrev pub ListClosed : List ℕ → ℕ → ℕ → List ℕ → Option ℕ → Type 0
ListClosed before at end after r =
    (end - (at + 3) ≤ greatest_short → ShortClosed before at end after r) × (greatest_short < end - (at + 3) → LongClosed before at end after r)
