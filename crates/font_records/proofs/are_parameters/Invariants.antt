use mathlib.Core.Bool.{Bool}
use mathlib.Core.List.{List}
use mathlib.Core.Path.{◌≡◌}
use Prim.Native.Nat.{ℕ}
use Rattle.font.specs.Records.{parameter_bytes, parameter_records, every, good_parameters}
use Rattle.font.specs.RecordsLaws.{in_pieces}
use Rattle.font.specs.Reading.{Left}
use Rattle.font_records.proofs.are_parameters.Given as goal

abbrev pub all_good : List ℕ → Bool
all_good s = every good_parameters (in_pieces parameter_bytes s)

abbrev pub invariant-loop-r : goal.invariant-loop-r
invariant-loop-r l = (l.r-iterator.size ≡ parameter_bytes) × Left all_good (every good_parameters (parameter_records l.table)) l.good l.r-iterator.rest.now
