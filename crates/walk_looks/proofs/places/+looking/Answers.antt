-- The look at items meets its contracts: `look_over` calls `look_at`, and that, for the taken list of a choice, `look_over` on a
-- shorter one.
-- Assumes nothing.
use Rattle.std.specs.Prelude.{Some}
use Rattle.std.proofs.Common.{refl, sym, ap, ◌∙◌, arith}
use Rattle.formula.specs.declared.Opening.TheVariants.{NoItem}
use Rattle.formula.specs.Places.{choice_lists}
use Rattle.formula.specs.PlacesLaws.{step, choice_at_lem}
use Rattle.spacing.specs.Values.{neighbour_as}
use Rattle.walk_looks.specs.PlaceLaws.{first_is, rest_opens, next_some, atom_seen, kern_seen, style_seen, looked_start, looked_step, looked_done}
use Rattle.walk_looks.specs.TakenLaws.{choice_seen}
use Rattle.walk_looks.proofs.places.+looking.Goals as goal

-- ---- look_at, by what opens

pub look_at-fields_end-requires : goal.look_at-fields_end-requires
look_at-fields_end-requires t c = sym c.in-Fields.ensures

-- a choice, and its taken list
pub look_at-taken_span-taken-requires : goal.look_at-taken_span-taken-requires
look_at-taken_span-taken-requires t c = (c.requires.0, sym c.in-Choice.ensures)

pub look_at-slice_bounds-look_over-count : goal.look_at-slice_bounds-look_over-count
look_at-slice_bounds-look_over-count t c = omega (arith, c.taken_span-taken.ensures.ordered)

pub look_at-slice_bounds-look_over-start : goal.look_at-slice_bounds-look_over-start
look_at-slice_bounds-look_over-start t c =
    let chosen = choice_at_lem c.args.s.now (sym c.in-Choice.ensures) c.requires.0 in
    omega (arith, c.taken_span-taken.ensures.ordered, c.taken_span-taken.ensures.inside, chosen.places_in choice_lists)

pub look_at-slice_bounds-look_over-end : goal.look_at-slice_bounds-look_over-end
look_at-slice_bounds-look_over-end t c =
    let chosen = choice_at_lem c.args.s.now (sym c.in-Choice.ensures) c.requires.0 in
    omega (arith, c.taken_span-taken.ensures.ordered, c.taken_span-taken.ensures.inside, chosen.places_in choice_lists)

pub look_at-look_over-inside-requires : goal.look_at-look_over-inside-requires
look_at-look_over-inside-requires t c =
    let span = c.taken_span-taken.ensures in
    let shorter = span.shorter in
    (omega arith, (span.readable, omega (arith, c.requires)))

pub look_at-list_place-requires : goal.look_at-list_place-requires
look_at-list_place-requires t c = sym c.in-Choice.ensures

pub look_at-returns-in-NoItem : goal.look_at-returns-in-NoItem
look_at-returns-in-NoItem t c =
    absurd (step c.args.s.now NoItem (sym c.in-NoItem.ensures) c.requires.0 c.requires.2).item

pub look_at-returns-in-Fields : goal.look_at-returns-in-Fields
look_at-returns-in-Fields t c =
    atom_seen (sym c.in-Fields.ensures) c.fields_end.ensures (ap Some c.class_of.ensures) refl

pub look_at-returns-in-Kern : goal.look_at-returns-in-Kern
look_at-returns-in-Kern t c = kern_seen (sym c.in-Kern.ensures) c.passed-in-Kern.ensures

pub look_at-returns-in-Restyle : goal.look_at-returns-in-Restyle
look_at-returns-in-Restyle t c =
    style_seen (sym c.in-Restyle.ensures) (c.passed-in-Restyle.ensures ∙ rw c.restyled.ensures)

pub look_at-returns-in-Choice : goal.look_at-returns-in-Choice
look_at-returns-in-Choice t c =
    choice_seen (sym c.in-Choice.ensures) c.taken_span-taken.ensures c.look_over-inside.ensures c.list_place.ensures

-- ---- look_over

pub look_over-loop-at-init : goal.look_over-loop-at-init
look_over-loop-at-init t c = looked_start _ _ c.requires.0

pub look_over-look_at-sight-requires : goal.look_over-look_at-sight-requires
look_over-look_at-sight-requires t c =
    let g = rest_opens c.loop-at.invariant.place c.loop-at-test.true c.requires.1 in
    (omega (arith, g.1), g.0)

-- once the item is seen
pub look_over-overflow_add-at : goal.look_over-overflow_add-at
look_over-overflow_add-at t c =
    let turned = looked_step c.loop-at.invariant c.loop-at-test.true c.look_at-sight.ensures (ap neighbour_as c.or-first.ensures ∙ first_is _ _) in
    omega (arith, turned.place.inside, c.requires.1)

pub look_over-loop-at-smaller : goal.look_over-loop-at-smaller
look_over-loop-at-smaller t c = omega (arith, next_some c.loop-at.invariant.place c.loop-at-test.true c.look_at-sight.ensures)

pub look_over-loop-at-preserved : goal.look_over-loop-at-preserved
look_over-loop-at-preserved t c = looked_step c.loop-at.invariant c.loop-at-test.true c.look_at-sight.ensures (ap neighbour_as c.or-first.ensures ∙ first_is _ _)

pub look_over-returns : goal.look_over-returns
look_over-returns t c =
    let d = looked_done c.loop-at.invariant c.loop-at-test.false in record { bytes_is = d.0; class_is = d.1; style_is = d.2 }
