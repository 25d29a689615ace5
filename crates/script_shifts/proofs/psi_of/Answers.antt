-- `psi_of` meets its contract: the differences are those of the definition.
-- Assumes nothing.
use borrow.Author.Rules.{rules}
use Rattle.scripts.specs.Scripts.{ψ_of}
use Rattle.script_shifts.proofs.psi_of.Goals as goal

pub returns : goal.returns
unfolding ψ_of
returns c =
    (rw (c.minus-2.ensures.is, c.minus.ensures.is, c.four_fifths_x_height.ensures.0), search rules)
