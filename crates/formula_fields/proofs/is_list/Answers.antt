-- `is_list` meets its contract: the kind byte, if there is one, is a list's or not.
-- Assumes nothing.
use Rattle.std.proofs.Common.{refl, sym, ap, ◌∙◌, Bool, false, ◌||◌, List, ℕ, arith, get_or}
use lib.Dec.{eqb}
use borrow.Author.Tests.{eq-eqb, ne_eqb}
use Rattle.formula.specs.Heads.{field_head_under, field_head, is_list}
use Rattle.formula.specs.FirstBytes.{short_one}
use Rattle.formula_fields.proofs.FieldLaws.{list_said}
use Rattle.formula_fields.proofs.is_list.Goals as goal

pub returns-in-empty : goal.returns-in-empty
unfolding field_head_under
returns-in-empty c = sym (short_one (λ (s : List ℕ). is_list (field_head s)) false refl c.args.s.now (omega arith))

pub returns-then-kind-eq-LIST_KIND : goal.returns-then-kind-eq-LIST_KIND
returns-then-kind-eq-LIST_KIND c =
    let s = c.args.s.now in
    let is = eq-eqb (get_or s 0 0) 2 c.if-kind-eq-LIST_KIND.true in
    is ∙ sym (list_said s c.in-len1-up.len_at_least ∙ ap (λ (t : Bool). t || eqb (get_or s 0 0) 3) is)

pub returns-else-kind-eq-LIST_KIND : goal.returns-else-kind-eq-LIST_KIND
returns-else-kind-eq-LIST_KIND c =
    let s = c.args.s.now in
    let not = ne_eqb (get_or s 0 0) 2 c.if-kind-eq-LIST_KIND.false in
    sym (list_said s c.in-len1-up.len_at_least ∙ ap (λ (t : Bool). t || eqb (get_or s 0 0) 3) not)
