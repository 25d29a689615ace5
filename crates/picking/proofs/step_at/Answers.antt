-- `step_at` meets its contract, by what opens.
-- Assumes nothing.
use mathlib.Core.Path.{sym, ◌∙◌}
use Rattle.formula.specs.declared.Opening.TheVariants.{NoItem}
use Rattle.formula.specs.PlacesLaws.{step}
use Rattle.picking.proofs.PickingLaws.{entered_as, kern_none, style_none, choice_span}
use Rattle.picking.proofs.step_at.Goals as goal

pub step_from-requires : goal.step_from-requires
step_from-requires c =
    let opens = sym c.opening.ensures ∙ c.in-Fields.is in
    let pre = c.requires in
    (pre.0, pre.1, opens, rw opens at pre.3)

pub taken_span-requires : goal.taken_span-requires
taken_span-requires c = (c.requires.0, sym c.opening.ensures ∙ c.in-Choice.is)

pub returns-in-NoItem : goal.returns-in-NoItem
returns-in-NoItem c =
    absurd (step c.args.s.now NoItem (sym c.opening.ensures ∙ c.in-NoItem.is) c.requires.0 c.requires.2).item

pub returns-in-Kern : goal.returns-in-Kern
returns-in-Kern c = kern_none _ _ _ _ (sym c.opening.ensures ∙ c.in-Kern.is)

pub returns-in-Restyle : goal.returns-in-Restyle
returns-in-Restyle c = style_none _ _ _ _ (sym c.opening.ensures ∙ c.in-Restyle.is)

pub returns-in-Choice : goal.returns-in-Choice
returns-in-Choice c =
    let a = c.args in
    let opens = sym c.opening.ensures ∙ c.in-Choice.is in
    let span = choice_span a.style a.place a.s.now opens c.requires.0 c.taken_span.ensures in
    entered_as a.style a.s.now _ a.place _ span.1 span.0 c.entered.ensures
