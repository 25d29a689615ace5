-- It stands at the list with so many passed, which lies in the item. Assumes nothing.
use Rattle.std.proofs.Common.{◌≡◌, ◌≤◌, length}
use Rattle.formula.specs.Places.{list_place}
use Rattle.formula_fields.proofs.list_place.Given as goal

abbrev pub invariant-loop : goal.invariant-loop
invariant-loop l = (l.at ≤ length l.s) × (l.at ≡ list_place l.s l.counter)
