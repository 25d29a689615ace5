-- A range of CH records that is halved, for `record_in`.
--     Halved            the range in which a symbol's record can be, and the steps that are enough for it: the loop's invariant
--     twelve_enough     twelve steps are enough for the most records that there may be
--     halved_whole      the range at first
--     has_step, halved_right, halved_left     a range that is not empty has a step left, and after it is that to either side of its middle
--     handed_back       what is found at a number, as a lookup hands it back
--     numbered_there    what is found at a number
--     halved_nowhere    with an empty range nothing is found
-- Assumes nothing.
use mathlib.Core.Path.{◌≡◌, sym, ap, ◌∙◌}
use mathlib.Core.List.{List, []}
use Prim.Native.Nat.{ℕ, zero, suc, ◌+◌, ◌-◌, ◌*◌, ◌/◌, ◌^◌, ◌<◌, ◌≤◌}
use native.Mathlib.Omega.{arith}
use lib.ListN.{length, get_or}
use Rattle.words.specs.WordLaws as bytes
use Rattle.font.specs.Records.{character_bytes, most_characters, client_records}
use Rattle.font.specs.Table.{SoundRecords}
use Rattle.font.specs.Keys.{key_of, key_in, Bytes}
use Rattle.font.specs.RecordsLaws.{count, numbered, recorded, record_at, all_in_bytes, counted}
use Rattle.font.specs.declared.Key.{Key}
use Rattle.font.specs.Font.{record_in, place_in, past}
use Rattle.font.proofs.LookupLaws.{found_part}
use Rattle.font.proofs.KeyLaws.{number}
use Rattle.font.specs.Finding.{FoundAt, found_there}
use Rattle.font_search.proofs.Halving.{Narrowed, narrowed_whole, narrowed_right, narrowed_left, found_nowhere}

-- ---- how many steps are enough

step_left : (n steps : ℕ) → 0 < n → n < 2 ^ steps → 0 < steps
step_left n zero more few = absurd (omega arith)
step_left n (suc steps) more few = omega arith

-- half of a range needs a step less
half_left : (n half steps : ℕ) → half + half ≤ n → n < 2 ^ steps → 0 < steps → half < 2 ^ (steps - 1)
half_left n half zero less few more = absurd (omega arith)
half_left n half (suc steps) less few more = let left : suc steps - 1 ≡ steps = omega arith in rw left (omega arith)

-- twelve for the most records that there may be
pub twelve_enough : (n : ℕ) → n ≤ most_characters → n < 2 ^ 12
twelve_enough n few = omega arith

-- ---- a range, and the steps that are left

-- from `from` to `to`; the symbol has this key
pub record Halved (s : List ℕ) (key from to steps : ℕ) : Type 0 where
  pub within : to ≤ count s
  pub narrowed : Narrowed (client_records s) key from to
  pub enough : to - from < 2 ^ steps

-- the record in the middle of a range
abbrev pub middle : List ℕ → ℕ → ℕ → List ℕ
middle s from to = numbered s ((from + to) / 2)

module _ (s : List ℕ) (sound : SoundRecords s) (byte : bytes.Bytes s) where
  pub halved_whole : (key steps : ℕ) → count s < 2 ^ steps → Halved s key 0 (count s) steps
  halved_whole key steps enough =
      record {
        within = omega arith;
        narrowed = narrowed_whole (client_records s) (all_in_bytes s byte) sound.rise key (count s) (omega (arith, recorded s));
        enough = omega arith;
      }

  module _ (key from to steps : ℕ) (more : from < to) (h : Halved s key from to steps) where
    abbrev m : ℕ
    m = (from + to) / 2

    inside : m < count s
    inside = omega (arith, h.within)

    listed : m < length (client_records s)
    listed = omega (arith, inside, recorded s)

    here : key_in (get_or (client_records s) m []) ≡ key_in (middle s from to)
    here = ap key_in (record_at s m inside)

    pub has_step : 0 < steps
    has_step = step_left (to - from) steps (omega arith) h.enough

    pub halved_right : key_in (middle s from to) < key → Halved s key (m + 1) to (steps - 1)
    halved_right less =
        record {
          within = h.within;
          narrowed = narrowed_right (client_records s) (all_in_bytes s byte) sound.rise key from to m listed (rw here less) h.narrowed;
          enough = half_left (to - from) (to - (m + 1)) steps (omega arith) h.enough has_step;
        }

    pub halved_left : key < key_in (middle s from to) → Halved s key from m (steps - 1)
    halved_left less =
        record {
          within = omega (arith, inside);
          narrowed = narrowed_left (client_records s) (all_in_bytes s byte) sound.rise key from to m (rw here less) h.narrowed;
          enough = half_left (to - from) (m - from) steps (omega arith) h.enough has_step;
        }

  module _ (size family code : ℕ) (b : Bytes family code) where
    -- the record of a number that has the symbol's key
    pub numbered_there : (m : ℕ) → m < count s → key_in (numbered s m) ≡ key_of size family code →
        FoundAt size family code (client_records s) (numbered s m) (character_bytes * m)
    numbered_there m inside same =
        let is = record_at s m inside in
        let found = found_there (client_records s) (all_in_bytes s byte) size family code b sound.rise m (omega (arith, recorded s)) (ap key_in is ∙ same) in
        record { bytes = found.bytes ∙ is; place = found.place }

    pub halved_nowhere : (from to steps : ℕ) → to ≤ from → Halved s (key_of size family code) from to steps →
        FoundAt size family code (client_records s) [] (length s)
    halved_nowhere from to steps done h =
        let found = found_nowhere (client_records s) (all_in_bytes s byte) size family code b from to done h.narrowed in
        record { bytes = found.bytes; place = omega (arith, found.place, recorded s, counted s sound) }

  -- handed back as a part of the records
  module _ (k : Key) (b : Bytes k.family k.code) where
    pub handed_back : (m : ℕ) → m < count s → {r : List ℕ} (p : ℕ × ℕ) {q : ℕ × ℕ} → r ≡ numbered s m → q ≡ past (character_bytes * m) p →
        key_in r ≡ number k →
        (length r ≡ character_bytes)
        × (r ≡ record_in k.size k.family k.code (client_records s))
        × (q ≡ past (place_in k.size k.family k.code (client_records s)) p)
    handed_back m inside p is at same =
        let found = numbered_there k.size k.family k.code b m inside (ap key_in (sym is) ∙ same) in
        found_part s sound k.size k.family k.code m inside found p is at
