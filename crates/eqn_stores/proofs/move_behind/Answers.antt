-- `move_behind` meets its contract: what has no room is passed over.
-- Assumes nothing.
use mathlib.Core.Path.{◌≡◌, sym, ◌∙◌}
use Prim.Native.Nat.{◌+◌, ◌-◌, ◌≤◌}
use native.Mathlib.Omega.{arith}
use Rattle.std.proofs.Math.Logic.{◌⊎◌}
use lib.ListN.{length, take, drop, length-drop}
use Rattle.eqn_stores.specs.SetsLaws.{sets_out, sets_copied}
use Rattle.eqn_stores.proofs.move_behind.Goals as goal

pub returns-then-start-out : goal.returns-then-start-out
returns-then-start-out c =
    let a = c.args in
    let o = a.out.now in
    let k = c.min-moved.result in
    let count : a.start + k - a.start ≡ k = omega arith in
    let most : (k ≡ a.n) ⊎ ((k ≤ a.n) × (length o ≤ a.start + 2 + k)) = grind arith in
    c.copy_within.ensures.after ∙ rw count (sets_copied o (a.start + 2) (drop a.start o) a.n k (omega arith) (omega (arith, length-drop a.start o)) most)

pub returns-else-start-out : goal.returns-else-start-out
returns-else-start-out c =
    let a = c.args in sym (sets_out a.out.now (a.start + 2) (take a.n (drop a.start a.out.now)) (omega arith))
