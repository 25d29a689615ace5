-- `Sp::min` meets its contract: the derived order is that of ℤ.
-- Assumes nothing.
use borrow.Author.Rules.{rules}
use Rattle.scaled.proofs.Made.{least}
use Rattle.scaled.proofs.Sp.min.Goals as goal

pub returns : goal.returns
returns c = search (rules, least)
