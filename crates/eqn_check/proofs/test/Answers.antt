-- `test` meets its contract: the least of the places that the passes have found is the right one, once they have seen the level where the
-- reading gets stuck.
-- Assumes nothing.
use Prim.Native.Nat.{◌+◌}
use native.Mathlib.Omega.{arith}
use Rattle.eqn_check.specs.Windows.{levels}
use Rattle.eqn_check.proofs.Passes.{Least, least_first, least_next}
use Rattle.eqn_check.proofs.test.Goals as goal

pub loop-base-init : goal.loop-base-init
loop-base-init c = least_first c.pass-first.ensures

pub loop-base-preserved : goal.loop-base-preserved
loop-base-preserved c = rw c.earlier-least.ensures (least_next c.loop-base.invariant c.pass.ensures)

pub returns : goal.returns
returns c = c.loop-base.invariant.exact (omega (arith, c.pass-first.ensures.deep, c.loop-base-test.false))

-- behind the last pass
pub returns-2 : goal.returns-2
returns-2 c =
    let last : Least c.args.text.now (c.loop-base.base + levels) c.earlier-least.result =
    rw c.earlier-least.ensures (least_next c.loop-base.invariant c.pass.ensures) in
    last.exact (omega (arith, c.pass-first.ensures.deep))
