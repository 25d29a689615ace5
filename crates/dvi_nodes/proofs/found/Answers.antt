-- `found` meets its contract: both tests together are the definition's.
-- Assumes nothing.
use Rattle.dvi_nodes.proofs.found.Goals as goal

pub returns-then-stands-is_writable : goal.returns-then-stands-is_writable
returns-then-stands-is_writable c = rw (← c.is_writable.ensures, c.if-stands-is_writable.true)

pub returns-else-stands-is_writable : goal.returns-else-stands-is_writable
returns-else-stands-is_writable c = rw (← c.is_writable.ensures, c.if-stands-is_writable.false)
