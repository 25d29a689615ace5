-- `field_head` meets its contract: the kind byte, of a list that has one, is 0, 1 or another.
-- Assumes nothing.
use Rattle.std.proofs.Common.{refl, sym, ◌∙◌, arith}
use Rattle.formula.specs.declared.FieldHead.TheVariants.{NoField}
use Rattle.formula.specs.Heads.{field_head_under, field_head}
use Rattle.formula.specs.FirstBytes.{short_one}
use Rattle.formula_fields.proofs.FieldLaws.{kind_empty, kind_symbol, kind_other}
use Rattle.formula_fields.proofs.field_head.Goals as goal

pub returns-in_default : goal.returns-in_default
unfolding field_head_under
returns-in_default c = sym (short_one field_head NoField refl c.args.s.now (omega arith))

pub returns-in-0 : goal.returns-in-0
returns-in-0 c = sym (kind_empty _ c.in-len1-up.len_at_least c.in-0.is)

pub returns-in-1 : goal.returns-in-1
returns-in-1 c = c.symbol_head.ensures ∙ sym (kind_symbol _ c.in-len1-up.len_at_least c.in-1.is)

pub returns-in_default-kind : goal.returns-in_default-kind
returns-in_default-kind c = c.list_head.ensures ∙ sym (kind_other _ c.in-len1-up.len_at_least)
