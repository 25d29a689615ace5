-- `atom_opening` meets its contract: of two bytes or more it is what `atom` says of the first two.
-- Assumes nothing.
use Rattle.std.proofs.Common.{refl, sym, ap, ◌∙◌}
use Rattle.formula.specs.declared.Opening.TheVariants.{NoItem}
use Rattle.formula.specs.Heads.{atom_opening}
use Rattle.formula.specs.FirstBytes.{two, short_two}
use Rattle.formula_atoms.proofs.atom_opening.Goals as goal

pub returns-in_default : goal.returns-in_default
unfolding atom_opening
returns-in_default c = sym (short_two atom_opening NoItem refl (λ a. refl) c.args.s.now c.in_default.len_below)

pub returns-in-len2-up : goal.returns-in-len2-up
unfolding atom_opening
returns-in-len2-up c = c.atom.ensures ∙ sym (ap atom_opening (two c.args.s.now c.in-len2-up.len_at_least))
