-- `is_empty` meets its contract: the kind byte, if there is one, is 0 or not.
-- Assumes nothing.
use Rattle.std.proofs.Common.{refl, sym, false, List, ℕ, arith}
use Rattle.formula.specs.Heads.{field_head_under, field_head, is_empty}
use Rattle.formula.specs.FirstBytes.{short_one}
use Rattle.formula_fields.proofs.FieldLaws.{empty_said}
use Rattle.formula_fields.proofs.is_empty.Goals as goal

pub returns-in-empty : goal.returns-in-empty
unfolding field_head_under
returns-in-empty c = sym (short_one (λ (s : List ℕ). is_empty (field_head s)) false refl c.args.s.now (omega arith))

pub returns-in-len1-up : goal.returns-in-len1-up
returns-in-len1-up c = sym (empty_said _ c.in-len1-up.len_at_least)
