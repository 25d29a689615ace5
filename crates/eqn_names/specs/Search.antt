-- A search among the records of a table, from a place on.
--     Search P s at o     the first record that P picks by its name and symbol, or none where none is left
-- Assumes nothing.
use Rattle.std.specs.Prelude.{Bool, true, false, List, ℕ, ◌+◌, ◌≤◌, ◌<◌, length, take, drop, Option, Some, None}
use Rattle.eqn_names.specs.Values.{Stepped}
use Rattle.eqn_names.specs.declared.Symbol.{Symbol}
use Rattle.eqn_names.specs.declared.Record.{Record}
use Rattle.eqn_names.specs.declared.Range.{Range}

-- the bytes of a record's name, behind its first byte
abbrev pub name_from : List ℕ → ℕ → Record → List ℕ
name_from s at r = take r.bytes (drop 1 (drop at s))

pub data Search (P : List ℕ → Symbol → Bool → Type 0) (s : List ℕ) : ℕ → Option (Range × Symbol) → Type 0 where
  ended : {at : ℕ} → length s ≤ at → Search P s at None
  stopped : {at : ℕ} → at < length s → Stepped (drop at s) None → Search P s at None
  picked : {at : ℕ} (r : Record) → at < length s → Stepped (drop at s) (Some r) → P (name_from s at r) r.symbol true →
      Search P s at (Some (record { start = at + 1; end = at + 1 + r.bytes }, r.symbol))
  passed : {at : ℕ} (r : Record) {o : Option (Range × Symbol)} → at < length s → Stepped (drop at s) (Some r) → P (name_from s at r) r.symbol false →
      Search P s (at + 1 + r.bytes + 3) o → Search P s at o
