-- The walk over the records of a table, for a search among its names.
--     front_told                 what was found at the front of the part that was lent
--     name_at, name_bytes         the record at a place, and the bytes of its name as they are lent
--     Stands, stands             a record that was tested, with the place of what stands behind it
--     step_told, step_room       a record that was passed by its length alone
--     step_stands, step_opened, step_behind     it stands there among records, before the others
-- Assumes nothing.
use mathlib.Core.Path.{◌≡◌, sym, ap, ◌∙◌}
use mathlib.Core.List.{List}
use mathlib.Core.Option.{some}
use Rattle.std.specs.Prelude.{Option, Some}
use Prim.Native.Nat.{ℕ, ◌+◌, ◌-◌, ◌≤◌, ◌<◌}
use native.Mathlib.Omega.{arith}
use lib.ListN.{length, take, drop, length-take, length-drop}
use lib.Seq.{drop-drop}
use Rattle.eqn_names.specs.declared.Record.{Record}
use Rattle.eqn_tokens.specs.BytesLaws.{rest_lent}
use Rattle.eqn_names.specs.Names.{Name, front_name, record_bytes, Records}
use Rattle.eqn_names.specs.Values.{name_as, front_as, Stepped}
use Rattle.eqn_names.specs.RecordsLaws.{front_is, fronts_size, records_first, Opened, records_open}

pub front_told : (r : Option Record) (at : ℕ) (s : List ℕ) →
    front_as (take (length s - at) (drop at s)) r ≡ front_name (take (length s - at) (drop at s)) → front_name (drop at s) ≡ front_as (drop at s) r
front_told r at s found = sym (rw (rest_lent at s) at found)

-- ---- the record at a place

abbrev pub name_at : List ℕ → ℕ → Record → Name
name_at s at r = name_as (take r.bytes (drop 1 (drop at s))) r.symbol

pub name_bytes : (s : List ℕ) (at n : ℕ) → take (at + 1 + n - (at + 1)) (drop (at + 1) s) ≡ take n (drop 1 (drop at s))
name_bytes s at n = let short : at + 1 + n - (at + 1) ≡ n = omega arith in rw (short, drop-drop 1 at s)

pub record Stands (s : List ℕ) (at : ℕ) (r : Record) : Type 0 where
  pub there : front_name (drop at s) ≡ some (name_at s at r)
  pub room : at + 1 + r.bytes + 3 ≤ length s
  pub next : at + record_bytes (name_at s at r) ≡ at + 1 + r.bytes + 3

found_stands : {s : List ℕ} {at : ℕ} {r : Record} → at < length s → front_name (drop at s) ≡ some (name_at s at r) → Stands s at r
found_stands {s} {at} {r} l e =
    let size = fronts_size (front_is (drop at s) (name_at s at r) e) in
    let whole = length-drop at s in
    let behind = length-drop 1 (drop at s) in
    let name = length-take r.bytes (drop 1 (drop at s)) in
    record { there = e; room = omega arith; next = omega arith }

pub stands : {s : List ℕ} {at : ℕ} {r : Record} → at < length s →
    front_as (take (length s - at) (drop at s)) (Some r) ≡ front_name (take (length s - at) (drop at s)) → Stands s at r
stands {s} {at} {r} l found = found_stands l (front_told (Some r) at s found)

-- ---- by its length alone

pub step_told : (r : Option Record) (at : ℕ) (s : List ℕ) → Stepped (take (length s - at) (drop at s)) r → Stepped (drop at s) r
step_told r at s found = rw (rest_lent at s) at found

pub step_room : (s : List ℕ) (at : ℕ) (r : Record) → at < length s → Stepped (drop at s) (Some r) → at + 1 + r.bytes + 3 ≤ length s
step_room s at r l f = omega (arith, f.0, length-drop at s)

-- among records it stands there
module _ (s : List ℕ) (at : ℕ) (r : Record) (l : at < length s) (f : Stepped (drop at s) (Some r)) {ms : List Name} (q : Records (drop at s) ms) where
  pub step_stands : Stands s at r
  step_stands =
      let first = records_first q (omega (arith, length-drop at s)) in
      found_stands l (first.1 ∙ ap some (f.1 first.0 first.1))

  pub step_opened : Opened (drop at s) (name_at s at r) ms
  step_opened = records_open q step_stands.there

  pub step_behind : Records (drop (at + 1 + r.bytes + 3) s) step_opened.rest
  step_behind =
      let m = name_at s at r in
      let behind : drop (record_bytes m) (drop at s) ≡ drop (at + 1 + r.bytes + 3) s =
      drop-drop (record_bytes m) at s ∙ ap (λ (i : ℕ). drop i s) step_stands.next in
      rw behind at step_opened.behind
