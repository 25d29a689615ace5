-- `fence_opening` meets its contract: of eight bytes or more it is what `fence` says of their two delimiters.
-- Assumes nothing.
use mathlib.Core.Path.{sym, ap₂, ◌∙◌}
use native.Mathlib.Omega.{arith}
use Rattle.formula.specs.Heads.{fence_of}
use Rattle.formula_delimiters.proofs.DelimiterLaws.{fence_none, fence_said}
use Rattle.formula_delimiters.proofs.fence_opening.Goals as goal

pub returns-then-s-lt8 : goal.returns-then-s-lt8
returns-then-s-lt8 c = sym (fence_none _ c.if-s-lt8.true)

pub returns : goal.returns
returns c =
    c.fence.ensures ∙ ap₂ fence_of c.delimiter_at.ensures c.delimiter_at-2.ensures
    ∙ sym (fence_said _ (omega arith))
