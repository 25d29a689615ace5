-- What the values of the code stand for in the definitions: candidates for a shift.
-- Assumes nothing.
use Rattle.std.specs.Prelude.{ℤ, Option, Some, None}
use Rattle.std.proofs.Math.Option.{none, some}
use Rattle.std.proofs.Math.Option.{Option as OptionOf}
use Rattle.scaled.specs.declared.Sp.{Sp}
use Rattle.scripts.specs.declared.Candidates.{Candidates}
use Rattle.scripts.specs.Scripts.{Candidates as CandidatesOf}

abbrev pub free_as : Option Sp → OptionOf ℤ
free_as None = none
free_as (Some z) = some z.0

abbrev pub candidates_as : Candidates → CandidatesOf
candidates_as c = record { dropped = c.dropped.0; least = c.least.0; free = free_as c.free }
