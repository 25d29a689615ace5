-- `sign_for` looks at the symbols of both pairs (`looked_both`), and answers what was found (`looked_taken`).
-- Assumes nothing.
use mathlib.Core.Path.{◌≡◌}
use Prim.Native.Nat.{ℕ}
use lib.IntN.{ℤ}
use Rattle.font.specs.Font.{Font}
use Rattle.formula.specs.declared.Delimiter.{Delimiter}
use Rattle.delimiters.specs.Delimiters.{of_pair, candidates, sign_for}
use Rattle.delimiters.specs.Looking.{Looked, nothing, looked_at, outcome}
use Rattle.delimiters.proofs.LookingLaws.{looked_both, looked_taken}
use Rattle.delimiters.proofs.sign_for.Goals as goal

-- of the outcome of both searches
ended : (F : Font) (size : ℕ) (d : Delimiter) (needed : ℤ) (first second : Looked) → first ≡ looked_at needed nothing (of_pair F size d.small) →
    second ≡ looked_at needed first (of_pair F size d.large) → outcome second ≡ sign_for F size d needed
unfolding sign_for candidates
ended F size d needed first second is_first is_second =
    rw (is_second, is_first, ← looked_both needed nothing (of_pair F size d.small) (of_pair F size d.large))
    (looked_taken needed (candidates F size d))

pub returns-in-Nothing : goal.returns-in-Nothing
returns-in-Nothing c = ended _ _ _ _ _ _ c.search_pair-first.ensures c.in-Nothing.ensures

pub returns-in-Short : goal.returns-in-Short
returns-in-Short c = ended _ _ _ _ _ _ c.search_pair-first.ensures c.in-Short.ensures

pub returns-in-Short-2 : goal.returns-in-Short-2
returns-in-Short-2 c = ended _ _ _ _ _ _ c.search_pair-first.ensures c.in-Short.ensures
