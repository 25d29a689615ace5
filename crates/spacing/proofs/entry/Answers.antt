-- `entry` meets its contract: the table is right at every pair of classes, which antt computes.
-- Assumes nothing.
use mathlib.Core.List.{List, [], ◌∷◌}
use Prim.Native.Nat.{ℕ}
use Rattle.spacing.specs.Spacing.{row, chart}
use Rattle.spacing.proofs.Chart.{right_entry}
use Rattle.spacing.proofs.entry.Goals as goal

-- the table of the code
table : List (List ℕ)
table =
    (0 ∷ 33 ∷ 40 ∷ 50 ∷ 0 ∷ 0 ∷ 0 ∷ 30 ∷ [])
    ∷ (33 ∷ 33 ∷ 0 ∷ 50 ∷ 0 ∷ 0 ∷ 0 ∷ 30 ∷ [])
    ∷ (40 ∷ 40 ∷ 0 ∷ 0 ∷ 40 ∷ 0 ∷ 0 ∷ 40 ∷ [])
    ∷ (50 ∷ 50 ∷ 0 ∷ 0 ∷ 50 ∷ 0 ∷ 0 ∷ 50 ∷ [])
    ∷ (0 ∷ 0 ∷ 0 ∷ 0 ∷ 0 ∷ 0 ∷ 0 ∷ 0 ∷ [])
    ∷ (0 ∷ 33 ∷ 40 ∷ 50 ∷ 0 ∷ 0 ∷ 0 ∷ 30 ∷ [])
    ∷ (30 ∷ 30 ∷ 0 ∷ 30 ∷ 30 ∷ 30 ∷ 30 ∷ 30 ∷ [])
    ∷ (30 ∷ 33 ∷ 40 ∷ 50 ∷ 30 ∷ 0 ∷ 30 ∷ 30 ∷ [])
    ∷ []

pub returns : goal.returns
unfolding table row chart
returns c =
    let args = c.args in
    rw (c.column.ensures.0, c.column-2.ensures.0) (right_entry table tt args.left args.right)
