use mathlib.Core.Bool.{Bool}
use mathlib.Core.List.{List}
use Prim.Native.Nat.{ℕ, ◌*◌}
use Rattle.font.specs.Records.{character_bytes, pieces, client_records, every}
use Rattle.font.specs.Font.{Font, font_with}
use Rattle.font.specs.Table.{seen_ends}
use Rattle.font.specs.RecordsLaws.{count}
use Rattle.font.specs.Reading.{Passing}
use Rattle.font_chains.proofs.all_end.Given as goal

-- each of some records, one after the other
abbrev pub ending : Font → ℕ → List ℕ → Bool
ending F n s = every (seen_ends F) (pieces character_bytes n s)

abbrev pub invariant-loop-i : goal.invariant-loop-i
invariant-loop-i l =
    Passing (ending (font_with l.tables.ours.now l.tables.client.now)) (every (seen_ends (font_with l.tables.ours.now l.tables.client.now)) (client_records l.s)) (count l.s) l.s (character_bytes * l.i) l.i l.good
