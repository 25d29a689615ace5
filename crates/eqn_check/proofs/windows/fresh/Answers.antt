-- `fresh` meets its contract: its test is the definition's.
-- Assumes nothing.
use borrow.Author.Tests.{lt-ltb, le-ltb}
use Rattle.eqn_check.proofs.windows.fresh.Goals as goal

pub returns-then-slot-lt-LEVELS : goal.returns-then-slot-lt-LEVELS
returns-then-slot-lt-LEVELS c = rw (← c.slot.ensures, lt-ltb _ _ c.if-slot-lt-LEVELS.true)

pub returns : goal.returns
returns c = rw (← c.slot.ensures, le-ltb _ _ c.if-slot-lt-LEVELS.false)
