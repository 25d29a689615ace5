-- What the reader says of an item or a field that it read: the place behind it, or its first fault.
-- Assumes nothing.
use Rattle.std.specs.Prelude.{ℕ, Result, Ok, Err}
use Rattle.formula.specs.declared.FaultAt.{FaultAt}
use Rattle.formula.specs.Reading.{Got, got, stopped}
use Rattle.formula.specs.Values.{fault_at}

unfoldable pub part_read_of : {A : Type 0} → Got A → Result ℕ FaultAt
part_read_of (got a at) = Ok at
part_read_of (stopped why place) = Err (fault_at why place)
