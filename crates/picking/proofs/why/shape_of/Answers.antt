-- `shape_of` meets its contract: what the walk sets has the shape, if nothing is missing of it and it fits.
-- Assumes nothing.
use mathlib.Core.Path.{◌≡◌}
use Prim.Native.Nat.{ℕ}
use native.Mathlib.Omega.{arith}
use Rattle.picking.proofs.why.shape_of.Goals as goal

pub returns-in-Ok : goal.returns-in-Ok
returns-in-Ok c =
    let set = c.in-Ok.ensures.0 in
    record { moderate = set.small.shape; is = λ there fits. (set.is fits).shape_is }

pub returns-in-Err : goal.returns-in-Err
returns-in-Err c =
    let lacks = c.in-Err.ensures.0 in
    record { moderate = tt; is = λ there fits. let z : ◌≡◌ {A = ℕ} 0 1 = cc (lacks, there) in absurd (omega arith) }
