-- `is_bare` meets its contract: a place is the end exactly where there is no such keyword (`split_none`).
-- Assumes nothing.
use Rattle.eqn_read.proofs.CutLaws.{split_none}
use Rattle.eqn_read.proofs.making.is_bare.Goals as goal

pub returns : goal.returns
returns c =
    rw (split_none c.last_outside-over.ensures, split_none c.last_outside-sup.ensures, split_none c.last_outside-sub.ensures)
