-- `Sp::max` meets its contract: the derived order is that of ℤ.
-- Assumes nothing.
use borrow.Author.Rules.{rules}
use Rattle.scaled.proofs.Made.{greatest}
use Rattle.scaled.proofs.Sp.max.Goals as goal

pub returns : goal.returns
returns c = search (rules, greatest)
