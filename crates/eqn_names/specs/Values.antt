-- What the code's values stand for, and what its functions promise.
--     front_as, found_as, table_told     the record at the front, the symbol of a word, the test of a table
--     Stepped, RecordRead    the record at the front of records, found by its length alone, and its bytes
--     NameFound              the bytes of a name in its table, behind the first byte of its record
--     UnknownFound           the place of the first unknown word
-- Assumes nothing.
use Rattle.std.specs.Prelude.{◌≡◌, List, ℕ, ◌+◌, ◌-◌, ◌≤◌, length, take, drop, get_or, Option, Some, None, Result, Ok, Err}
use Rattle.std.proofs.Math.Option.{Option as OptionOf, none, some}
use Rattle.eqn_tokens.specs.Tokens.{tokens_in, place_in}
use Rattle.eqn_names.specs.Names.{Name, Table, names, bad_at, name_in, front_name}
use Rattle.eqn_names.specs.Unknown.{first_unknown}
use Rattle.eqn_names.specs.declared.BadRecord.{BadRecord}
use Rattle.eqn_names.specs.declared.Range.{Range}
use Rattle.eqn_names.specs.declared.Record.{Record}
use Rattle.eqn_names.specs.declared.Symbol.{Symbol}

abbrev pub name_as : List ℕ → Symbol → Name
name_as w symbol = record { bytes = w; family = symbol.family; code = symbol.code; class = symbol.class }

-- the record at the front of s
abbrev pub front_as : List ℕ → Option Record → OptionOf Name
front_as s (Some r) = some (name_as (take r.bytes (drop 1 s)) r.symbol)
front_as s None = none

-- if there is one
abbrev pub Stepped : List ℕ → Option Record → Type 0
Stepped s (Some r) = (r.bytes + 4 ≤ length s) × ((m : Name) → front_name s ≡ some m → m ≡ name_as (take r.bytes (drop 1 s)) r.symbol)
Stepped s None = front_name s ≡ none

-- by the bytes of a record, whether they are good or not
abbrev pub RecordRead : List ℕ → Option Record → Type 0
RecordRead s (Some r) = (r.bytes ≡ get_or s 0 0) × (name_as (take r.bytes (drop 1 s)) r.symbol ≡ name_in (get_or s 0 0) (drop 1 s))
RecordRead s None = Unit {0}

abbrev pub found_as : List ℕ → Option Symbol → OptionOf Name
found_as w (Some symbol) = some (name_as w symbol)
found_as w None = none

-- of a record that stands at a place
abbrev pub NameFound : List ℕ → OptionOf Name → ℕ → Option Range → Type 0
NameFound s o place None = o ≡ none
NameFound s o place (Some r) =
    (m : Name) × (o ≡ some m) × (r.start ≤ r.end) × (r.end ≤ length s) × (m.bytes ≡ take (r.end - r.start) (drop r.start s)) × (r.start ≡ place + 1)

abbrev pub table_told : Table → Result (Unit {0}) BadRecord
table_told (names ns) = Ok tt
table_told (bad_at at) = Err (record { place = at })

-- ---- the first unknown word

abbrev pub UnknownFound : List Name → List ℕ → Option ℕ → Type 0
UnknownFound ns s None = first_unknown ns (tokens_in s) ≡ none
UnknownFound ns s (Some place) = (n : ℕ) × (first_unknown ns (tokens_in s) ≡ some n) × (place ≡ place_in n s)
