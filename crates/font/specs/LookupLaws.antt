-- What a lookup comes to: the record, as a part of the client's table or of ours, and the symbol that it is of.
--     Answers    no bytes and no symbol, or a whole record and what it says
--     answers    a lookup among some records; in both tables, see proofs/LookupLaws.antt
--     short, long    the symbol, by the length of the bytes
--     our_part, sound_part     our CH records, as the code takes them
--     own_record       a record is its own symbol's
-- Assumes nothing.
use Rattle.std.specs.Prelude.{◌≡◌, refl, Bool, true, false, ℕ, zero, suc, ◌-◌, ◌*◌, ◌<◌, ◌≤◌, get_or, take, drop}
use Rattle.std.proofs.Common.{ap, ◌∙◌, arith, length-drop, length-take-le}
use mathlib.Core.List.{List, [], ◌∷◌}
use Rattle.std.proofs.Math.Option.{Option, none, some}
use Rattle.words.specs.WordLaws.{Bytes}
use Rattle.std.proofs.Math.ListN.{length}
use Rattle.font.specs.Records.{header_bytes, character_bytes, pieces, character_records, client_records, client_count, size_byte, family_byte, code_byte, good_records}
use Rattle.font.specs.Font.{Metrics, metrics_of, is_of, lookup, record_in}
use Rattle.font.specs.Table.{SoundRecords}
use Rattle.font.specs.FontLaws.{ours_alone, sound_ours}
use Rattle.font.specs.Finding.{found_there}
use Rattle.font.specs.Reading.{rest_of}
use Rattle.font.specs.RecordsLaws.{all_in_bytes}

-- ---- a lookup's answer

pub data Answers : List ℕ → Option Metrics → Type 0 where
  absent : Answers [] none
  present : {r : List ℕ} → length r ≡ character_bytes → Answers r (some (metrics_of r))

pub short : {r : List ℕ} {m : Option Metrics} → Answers r m → length r < character_bytes → m ≡ none
short absent h = refl
short (present e) h = absurd (omega arith)

pub long : {r : List ℕ} {m : Option Metrics} → Answers r m → character_bytes ≤ length r → m ≡ some (metrics_of r)
long absent h = absurd (omega arith)
long (present e) h = refl

-- ---- among some records

abbrev pub AllWhole : List (List ℕ) → Type 0
AllWhole l = (i : ℕ) → i < length l → length (get_or l i []) ≡ character_bytes

module _ (size family code : ℕ) where
  first_or : (r q : List ℕ) (m : Option Metrics) (b : Bool) → length r ≡ character_bytes → Answers q m →
      Answers (elim b [ true ↦ r | false ↦ q ]) (elim b [ true ↦ some (metrics_of r) | false ↦ m ])
  first_or r q m true e behind = present e
  first_or r q m false e behind = behind

  pub answers : (l : List (List ℕ)) → AllWhole l → Answers (record_in size family code l) (lookup size family code l)
  unfolding record_in lookup
  answers [] all = absent
  answers (r ∷ l) all =
      first_or r (record_in size family code l) (lookup size family code l) (is_of size family code r) (all 0 (omega arith))
      (answers l (λ i h. all (suc i) (omega arith)))

whole_pieces : (n : ℕ) (s : List ℕ) → character_bytes * n ≤ length s → AllWhole (pieces character_bytes n s)
unfolding pieces
whole_pieces zero s enough i h = absurd (omega arith)
whole_pieces (suc n) s enough zero h = length-take-le character_bytes s (omega arith)
whole_pieces (suc n) s enough (suc i) h =
    whole_pieces n (drop character_bytes s) (omega (arith, length-drop character_bytes s)) i (omega arith)

pub all_whole : (s : List ℕ) → SoundRecords s → AllWhole (client_records s)
unfolding client_records
all_whole s sound = whole_pieces (client_count s) s (omega (arith, sound.whole))

-- ---- ours, behind the PA records

module _ (t : List ℕ) where
  abbrev pub ours : List ℕ
  ours = take (length t - header_bytes) (drop header_bytes t)

  pub our_part : client_records ours ≡ character_records t
  our_part = rw (rest_of header_bytes t) (ours_alone t)

  pub sound_part : good_records t ≡ true → SoundRecords ours
  sound_part good = rw (rest_of header_bytes t) (sound_ours t good)

-- ---- a record is its own symbol's

module _ (s : List ℕ) (sound : SoundRecords s) (byte : Bytes s) (i : ℕ) (h : i < length (client_records s)) where
  abbrev r : List ℕ
  r = get_or (client_records s) i []

  pub own_record : lookup (size_byte r) (family_byte r) (code_byte r) (client_records s) ≡ some (metrics_of r)
  own_record =
      let l = client_records s in
      let bytes = all_in_bytes s byte in
      let found = found_there l bytes (size_byte r) (family_byte r) (code_byte r) (bytes i) sound.rise i h refl in
      let full = all_whole s sound i h in
      long (answers (size_byte r) (family_byte r) (code_byte r) l (all_whole s sound)) (rw found.bytes (omega arith))
      ∙ ap (λ (q : List ℕ). some (metrics_of q)) found.bytes
