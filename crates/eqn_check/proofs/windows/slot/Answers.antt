-- `slot` meets its contract: its tests are the definition's.
-- Assumes nothing.
use Rattle.eqn_check.specs.Windows.{slot_of}
use borrow.Author.Tests.{lt-ltb, le-ltb}
use Rattle.eqn_check.proofs.windows.slot.Goals as goal

pub returns-then-level-base : goal.returns-then-level-base
unfolding slot_of
returns-then-level-base c = rw (lt-ltb _ _ c.if-level-base.true)

pub returns-then-level-base-lt-LEVELS : goal.returns-then-level-base-lt-LEVELS
unfolding slot_of
returns-then-level-base-lt-LEVELS c = rw (le-ltb _ _ c.if-level-base.false, lt-ltb _ _ c.if-level-base-lt-LEVELS.true)

pub returns : goal.returns
unfolding slot_of
returns c = rw (le-ltb _ _ c.if-level-base.false, le-ltb _ _ c.if-level-base-lt-LEVELS.false)
