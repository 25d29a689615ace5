-- The records that are left are sound from the least key that may come next on exactly if all are, where all so far were (`Passing`).
-- Assumes nothing.
use mathlib.Core.Bool.{Bool}
use mathlib.Core.List.{List}
use Prim.Native.Nat.{ℕ, ◌*◌}
use Rattle.font.specs.Records.{character_bytes, pieces, client_records}
use Rattle.font.specs.RecordsLaws.{count}
use Rattle.font.specs.Reading.{Passing}
use Rattle.font_records.specs.Rules.{sound_characters}
use Rattle.font_records.proofs.RuleLaws.{sound_from}
use Rattle.font_records.proofs.are_characters.Given as goal

-- n records are good and rise from the least key on
abbrev pub sound : ℕ → ℕ → List ℕ → Bool
sound least n s = sound_from least (pieces character_bytes n s)

abbrev pub invariant-loop-i : goal.invariant-loop-i
invariant-loop-i l = Passing (sound l.least) (sound_characters (client_records l.s)) (count l.s) l.s (character_bytes * l.i) l.i l.good
