-- `root_opening` meets its contract: of four bytes or more it is what `root` says of their delimiter.
-- Assumes nothing.
use mathlib.Core.Path.{sym, ap, ◌∙◌}
use native.Mathlib.Omega.{arith}
use Rattle.formula.specs.Heads.{root_of, root_opening}
use Rattle.formula_delimiters.proofs.DelimiterLaws.{behind_none, behind_said}
use Rattle.formula_delimiters.proofs.root_opening.Goals as goal

pub returns-then-s-lt4 : goal.returns-then-s-lt4
unfolding root_opening
returns-then-s-lt4 c = sym (behind_none _ _ c.if-s-lt4.true)

pub returns : goal.returns
unfolding root_opening
returns c =
    c.root.ensures ∙ ap root_of c.delimiter_at.ensures ∙ sym (behind_said _ _ (omega arith))
