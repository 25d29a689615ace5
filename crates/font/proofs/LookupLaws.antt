-- What a lookup in both tables comes to.
--     found_part    a record that was found, as a part of the records
--     seen       a lookup in both tables: no bytes and no symbol, or a whole record and what it says
--     read_none, read_some     the symbol in both, by what a lookup handed back
--     read_short, read_long    the symbol in both, by the length of the part that holds its record
--     client_record, our_record     the record and its place, where the client has one, and where not
--     client_hands, our_hands       what a lookup hands back, likewise
-- Assumes nothing.
use Rattle.std.specs.Prelude.{◌≡◌, refl, ℕ, ◌*◌, ◌<◌, ◌≤◌}
use Rattle.std.proofs.Common.{sym, ap, ap₂, ◌∙◌, arith}
use mathlib.Core.List.{List, [], ◌∷◌}
use Rattle.std.proofs.Math.Option.{Option as OptionOf, none, some}
use Rattle.std.proofs.Math.ListN.{length}
use Rattle.font.specs.Records.{header_bytes, character_bytes, character_records, client_records}
use Rattle.font.specs.Font.{Metrics, metrics_of, font_of, font_with, ◌or_ours◌, record_in, record_of, ◌or_record◌, place_in, place_of, past}
use Rattle.std.specs.Borrow.{Bor}
use Rattle.std.specs.Prelude.{Option, Some, None, drop}
use Rattle.font.specs.Values.{HandsBack}
use Rattle.font.specs.Finding.{FoundAt, lies}
use Rattle.font.specs.RecordsLaws.{count, numbered, recorded, record_at}
use Rattle.font.specs.Table.{SoundTables, SoundRecords}
use Rattle.font.specs.FontLaws.{sound_client, ours_alone}
use Rattle.font.specs.LookupLaws.{Answers, absent, present, short, long, answers, all_whole, ours, our_part, sound_part}

-- the client's, or else ours
either : {r q : List ℕ} {m n : OptionOf Metrics} → Answers r m → Answers q n → Answers (r or_record q) (m or_ours n)
either absent ours = ours
either (present {r = []} e) ours = absurd (omega arith)
either (present {r = b ∷ r} e) ours = present e

same_hands : (o : Option (Bor (List ℕ))) {r q : List ℕ} {m n : ℕ × ℕ} → r ≡ q → m ≡ n → HandsBack o r m → HandsBack o q n
same_hands None e f h = sym e ∙ h
same_hands (Some r) e f h = (h.0, h.1 ∙ e, h.2 ∙ f)

-- ---- among some records

-- the record of a number, which was found, as the part that holds it is handed back
module _ (s : List ℕ) (sound : SoundRecords s) (size family code m : ℕ) (inside : m < count s) where
  pub found_part : FoundAt size family code (client_records s) (numbered s m) (character_bytes * m) →
      {r : List ℕ} (p : ℕ × ℕ) {q : ℕ × ℕ} → r ≡ numbered s m → q ≡ past (character_bytes * m) p →
      (length r ≡ character_bytes)
      × (r ≡ record_in size family code (client_records s))
      × (q ≡ past (place_in size family code (client_records s)) p)
  found_part found p is at =
      let both = lies size family code found p is in
      (ap length (is ∙ sym (record_at s m inside)) ∙ all_whole s sound m (omega (arith, recorded s)), both.0, at ∙ both.1)

-- ---- in both tables

module _ (t c : List ℕ) (size family code : ℕ) where
  seen : SoundTables t c → Answers (record_of t c size family code) ((font_with t c).symbol size family code)
  unfolding record_of font_with font_of
  seen sound =
      either
      (answers size family code (client_records c) (all_whole c (sound_client c sound.client)))
      (answers size family code (character_records t) (rw (our_part t) at (all_whole (ours t) (sound_part t sound.ours))))

  -- a part that holds the record's bytes, by its length
  module _ (sound : SoundTables t c) (r : List ℕ) (is : r ≡ record_of t c size family code) where
    pub read_short : length r < character_bytes → (font_with t c).symbol size family code ≡ none
    read_short h = short (seen sound) (rw is at h)

    pub read_long : character_bytes ≤ length r → (font_with t c).symbol size family code ≡ some (metrics_of r)
    read_long h = long (seen sound) (rw is at h) ∙ ap (λ (q : List ℕ). some (metrics_of q)) (sym is)

  -- by what a lookup handed back
  module _ (sound : SoundTables t c) where
    pub read_none : record_of t c size family code ≡ [] → (font_with t c).symbol size family code ≡ none
    read_none gone = read_short sound [] (sym gone) (omega arith)

    pub read_some : {r : Bor (List ℕ)} {p : ℕ × ℕ} → HandsBack (Some r) (record_of t c size family code) p →
        (font_with t c).symbol size family code ≡ some (metrics_of r.now)
    read_some {r} h = read_long sound r.now h.1 (omega (arith, h.0))

  module _ (p q : ℕ × ℕ) where
    abbrev own : List ℕ
    own = record_in size family code (client_records c)

    pub client_record : 0 < length own → (record_of t c size family code ≡ own) × (place_of t c p q size family code ≡ past (place_in size family code (client_records c)) q)
    unfolding record_of place_of
    client_record = go own
      where
        go : (r : List ℕ) → 0 < length r →
            (r or_record record_in size family code (character_records t) ≡ r)
            × (elim r [
              | [] ↦ past (place_in size family code (character_records t)) (past header_bytes p)
              | _ ∷ _ ↦ past (place_in size family code (client_records c)) q
            ]
            ≡ past (place_in size family code (client_records c)) q)
        go [] h = absurd (omega arith)
        go (b ∷ r) h = (refl, refl)

    pub our_record : length own ≤ 0 →
        (record_of t c size family code ≡ record_in size family code (character_records t))
        × (place_of t c p q size family code ≡ past (place_in size family code (character_records t)) (past header_bytes p))
    unfolding record_of place_of
    our_record = go own
      where
        go : (r : List ℕ) → length r ≤ 0 →
            (r or_record record_in size family code (character_records t) ≡ record_in size family code (character_records t))
            × (elim r [
              | [] ↦ past (place_in size family code (character_records t)) (past header_bytes p)
              | _ ∷ _ ↦ past (place_in size family code (client_records c)) q
            ]
            ≡ past (place_in size family code (character_records t)) (past header_bytes p))
        go [] h = (refl, refl)
        go (b ∷ r) h = absurd (omega arith)

    -- what the client's records hand back, or ours where they have none
    pub client_hands : {r : Bor (List ℕ)} →
        HandsBack (Some r) own (past (place_in size family code (client_records c)) q) →
        HandsBack (Some r) (record_of t c size family code) (place_of t c p q size family code)
    client_hands h =
        let is = client_record (omega (arith, ap length h.1, h.0)) in
        (h.0, h.1 ∙ sym is.0, h.2 ∙ sym is.1)

    -- s is the part behind the PA records
    pub our_hands : (o : Option (Bor (List ℕ))) (s : Bor (List ℕ)) → s.now ≡ drop header_bytes t → s.ref_ptr ≡ past header_bytes p → own ≡ [] →
        HandsBack o (record_in size family code (client_records s.now)) (past (place_in size family code (client_records s.now)) s.ref_ptr) →
        HandsBack o (record_of t c size family code) (place_of t c p q size family code)
    our_hands o s at starts gone h =
        let is = our_record (omega (arith, ap length gone)) in
        let records : client_records s.now ≡ character_records t = ap client_records at ∙ ours_alone t in
        same_hands o
        (ap (record_in size family code) records ∙ sym is.0)
        (ap₂ (λ (l : List (List ℕ)) (p : ℕ × ℕ). past (place_in size family code l) p) records starts ∙ sym is.1)
        h
