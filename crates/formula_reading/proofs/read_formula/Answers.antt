-- `read_formula` meets its contract: the test of the length decides the reading.
-- Assumes nothing.
use mathlib.Core.Path.{◌∙◌, sym}
use borrow.Author.Tests.{lt-ltb, le-ltb}
use Rattle.formula.specs.Reading.{read_formula_under}
use Rattle.formula.specs.Values.{told}
use Rattle.formula_reading.proofs.read_formula.Goals as goal

pub returns-then-s-gt-FORMULA_LIMIT : goal.returns-then-s-gt-FORMULA_LIMIT
unfolding read_formula_under told
returns-then-s-gt-FORMULA_LIMIT c = simp (read_formula_under, lt-ltb _ _ c.if-s-gt-FORMULA_LIMIT.true)

pub returns : goal.returns
unfolding read_formula_under
returns c = c.read_list.ensures ∙ sym (simp (read_formula_under, le-ltb _ _ c.if-s-gt-FORMULA_LIMIT.false))
