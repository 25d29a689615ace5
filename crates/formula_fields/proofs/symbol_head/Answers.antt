-- `symbol_head` meets its contract: the family is tested.
-- Assumes nothing.
use Rattle.std.proofs.Common.{refl, sym, ap, ◌∙◌}
use borrow.Author.Tests.{le-leb, lt-leb}
use Rattle.formula.specs.declared.FieldHead.TheVariants.{NoField}
use Rattle.formula.specs.Heads.{symbol_head}
use Rattle.formula.specs.FirstBytes.{two, short_two}
use Rattle.formula_fields.proofs.symbol_head.Goals as goal

pub returns-in_default : goal.returns-in_default
unfolding symbol_head
returns-in_default c = sym (short_two symbol_head NoField refl (λ a. refl) c.args.s.now c.in_default.len_below)

pub returns-then-family-gt-GREATEST_FAMILY : goal.returns-then-family-gt-GREATEST_FAMILY
unfolding symbol_head
returns-then-family-gt-GREATEST_FAMILY c =
    sym (ap symbol_head (two c.args.s.now c.in-len2-up.len_at_least) ∙ simp (symbol_head, lt-leb _ _ c.if-family-gt-GREATEST_FAMILY.true))

pub returns-else-family-gt-GREATEST_FAMILY : goal.returns-else-family-gt-GREATEST_FAMILY
unfolding symbol_head
returns-else-family-gt-GREATEST_FAMILY c =
    sym (ap symbol_head (two c.args.s.now c.in-len2-up.len_at_least) ∙ simp (symbol_head, le-leb _ _ c.if-family-gt-GREATEST_FAMILY.false))
