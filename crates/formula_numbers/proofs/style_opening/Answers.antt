-- `style_opening` meets its contract: the number, of a list that has one, is tested.
-- Assumes nothing.
use Rattle.std.proofs.Common.{refl, sym, ap, arith, ◌∙◌}
use borrow.Author.Tests.{le-leb, lt-leb}
use Rattle.formula.specs.declared.Opening.TheVariants.{NoItem}
use Rattle.formula.specs.Heads.{style_opening}
use Rattle.formula.specs.FirstBytes.{one, short_one}
use Rattle.formula_numbers.proofs.style_opening.Goals as goal

pub returns-in_default : goal.returns-in_default
unfolding style_opening
returns-in_default c = sym (short_one style_opening NoItem refl c.args.s.now (omega arith))

pub returns-then-style-gt-GREATEST_STYLE : goal.returns-then-style-gt-GREATEST_STYLE
unfolding style_opening
returns-then-style-gt-GREATEST_STYLE c =
    sym (ap style_opening (one c.args.s.now c.in-len1-up.len_at_least) ∙ simp (style_opening, lt-leb _ _ c.if-style-gt-GREATEST_STYLE.true))

pub returns-else-style-gt-GREATEST_STYLE : goal.returns-else-style-gt-GREATEST_STYLE
unfolding style_opening
returns-else-style-gt-GREATEST_STYLE c =
    sym (ap style_opening (one c.args.s.now c.in-len1-up.len_at_least) ∙ simp (style_opening, le-leb _ _ c.if-style-gt-GREATEST_STYLE.false))
