-- `why_head` meets its contract, by whether the item has fields.
-- Assumes nothing.
use mathlib.Core.Path.{sym}
use borrow.Enum.Refused.{opened}
use Rattle.std.specs.Prelude.{None}
use Rattle.picking.proofs.WhyLaws.{no_fields, same_fields}
use Rattle.picking.proofs.why.why_head.Goals as goal

pub returns-in_default : goal.returns-in_default
returns-in_default c = no_fields _ _ _ c.opening.ensures None (opened c.in_default.in_default-own.keys2)

pub why_fields-requires : goal.why_fields-requires
why_fields-requires c = (c.requires, sym c.in-Fields.ensures)

pub returns : goal.returns
returns c = same_fields _ _ _ c.opening.ensures c.why_fields.result c.in-Fields.is c.why_fields.ensures
