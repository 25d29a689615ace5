-- `entered` meets its contract, by whether the place is before the span.
-- Assumes nothing.
use Rattle.picking.proofs.PickingLaws.{not_entered, is_entered}
use Rattle.picking.proofs.entered.Goals as goal

pub returns-then-place-span : goal.returns-then-place-span
returns-then-place-span c = not_entered _ _ _ c.if-place-span.true

pub returns : goal.returns
returns c = is_entered _ _ _ c.if-place-span.false
