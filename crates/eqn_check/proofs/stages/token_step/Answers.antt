-- `token_step` meets its contract, arm by arm.
-- Assumes nothing.
use Rattle.eqn_check.proofs.stages.token_step.Goals as goal

pub returns-in-Word : goal.returns-in-Word
returns-in-Word c = rw (c.in-Word.is, c.behind_primary.ensures)

pub returns-in-Keyword : goal.returns-in-Keyword
returns-in-Keyword c = rw c.in-Keyword.is c.behind_keyword.ensures

pub returns-in-Close : goal.returns-in-Close
returns-in-Close c = rw c.in-Close.is c.close.ensures

pub returns-in-End : goal.returns-in-End
returns-in-End c = rw c.in-End.is c.end.ensures
