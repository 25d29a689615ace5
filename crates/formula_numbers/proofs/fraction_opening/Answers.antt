-- `fraction_opening` meets its contract: the bar byte, of a list that has one, stands for a bar or not.
-- Assumes nothing.
use Rattle.std.proofs.Common.{refl, sym, ap, arith, get_or, ◌∙◌}
use Rattle.formula.specs.declared.Opening.TheVariants.{NoItem}
use Rattle.formula.specs.Heads.{bars, fraction_of, fraction_opening}
use Rattle.formula.specs.FirstBytes.{one, short_one}
use Rattle.formula.specs.Values.{numbered_some, numbered_none}
use Rattle.formula_numbers.proofs.fraction_opening.Goals as goal

pub returns-in_default : goal.returns-in_default
unfolding fraction_opening
returns-in_default c = sym (short_one fraction_opening NoItem refl c.args.s.now (omega arith))

pub returns-in-Ok : goal.returns-in-Ok
unfolding fraction_opening fraction_of
returns-in-Ok c =
    let s = c.args.s.now in
    sym (ap fraction_opening (one s c.in-len1-up.len_at_least) ∙ ap fraction_of (numbered_some bars (get_or s 0 0) _ c.in-Ok.ensures))

pub returns-in-Err : goal.returns-in-Err
unfolding fraction_opening fraction_of
returns-in-Err c =
    let s = c.args.s.now in
    sym (ap fraction_opening (one s c.in-len1-up.len_at_least) ∙ ap fraction_of (numbered_none bars (get_or s 0 0) _ c.in-Err.ensures))
