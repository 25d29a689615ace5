-- What the values of the code stand for in the definitions: shifts with their reasons.
-- Assumes nothing.
use Rattle.std.specs.Prelude.{Option, Some, None}
use Rattle.std.proofs.Math.Option.{none, some}
use Rattle.std.proofs.Math.Option.{Option as OptionOf}
use Rattle.reasons.specs.declared.ShiftReason.{ShiftReason}
use Rattle.reasons.specs.declared.Reasons.{Reasons}
use Rattle.reasons.specs.Reasons.{ShiftReason as ShiftReasonOf, Reasons as ReasonsOf}

abbrev pub shift_reason_as : ShiftReason → ShiftReasonOf
shift_reason_as d = record { by = d.by; shift = d.shift.0 }

abbrev pub reasons_as : Reasons → ReasonsOf
reasons_as r = record { up = shift_reason_as r.up; down = shift_reason_as r.down }

abbrev pub item_reasons_as : Option Reasons → OptionOf ReasonsOf
item_reasons_as None = none
item_reasons_as (Some r) = some (reasons_as r)
