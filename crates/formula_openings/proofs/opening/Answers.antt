-- `opening` meets its contract: of two bytes or more it is what opens behind their mark.
-- Assumes nothing.
use Rattle.std.proofs.Common.{refl, sym, ap, ap₂, ◌∙◌}
use Rattle.formula.specs.declared.Opening.TheVariants.{NoItem}
use Rattle.formula.specs.Heads.{opens, opening_of}
use Rattle.formula.specs.Slices.{tail_part}
use Rattle.formula.specs.FirstBytes.{two, short_two}
use Rattle.formula_openings.proofs.opening.Goals as goal

pub returns-in_default : goal.returns-in_default
unfolding opening_of
returns-in_default c = sym (short_two opening_of NoItem refl (λ a. refl) c.args.s.now c.in_default.len_below)

pub returns : goal.returns
unfolding opening_of
returns c =
    let s = c.args.s.now in
    c.opened.ensures ∙ ap₂ opens c.mark.ensures (tail_part s 2) ∙ sym (ap opening_of (two s c.in-len2-up.len_at_least))
