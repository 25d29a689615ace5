-- What a good table promises, and a good client's table under it, for those who know no byte of either.
--     whole_records, records_good, client_good     the CH records fill a table, and keep the rules; of a client's table the same
--     ours_alone, sound_ours, sound_client         the CH records of either, as a lookup goes through them
--     seen_ends_lem       the chain of a symbol that some records have, where the chain of each ends
--     good_records_lem    the records of a good table keep the rules of document 01
--     good_header     it is long enough for `parameters`
--     with_empty, sound_alone, empty_client        an empty client's table changes nothing, and is good
--     sound_tables    the two are what a lookup asks for
--     chains_end      no chain in them is of more than sixteen steps, from whatever symbol it starts
-- Assumes nothing.
use Rattle.std.specs.Prelude.{◌≡◌, Bool, ◌&&◌, ℕ, suc, ◌+◌, ◌*◌, ◌≤◌, length, drop}
use Rattle.std.proofs.Math.Path.{refl}
use Rattle.std.proofs.Math.Bool.{true, false, and-eq-true_iff}
use mathlib.Core.List.{List, [], ◌∷◌}
use Rattle.std.proofs.Math.Option.{Option, none, some}
use Rattle.std.proofs.Common.{arith}
use borrow.Author.Tests.{leb-true, eqb-true, not-true}
use Rattle.std.proofs.Math.Dec.{eqb}
use Rattle.std.proofs.Math.ListN.{length-drop}
use Rattle.laws.specs.Options.{none_some}
use Rattle.font.specs.Records.{header_bytes, character_bytes, character_count, most_characters, client_count, most_client_characters}
use Rattle.font.specs.Records.{pieces, parameter_records, character_records, client_records, size_byte, family_byte, code_byte}
use Rattle.font.specs.Records.{every, good_parameters, good_character, rising, good_length, good_records, good_client_length, good_client_records}
use Rattle.font.specs.Font.{Metrics, Font, is_of, lookup, metrics_of, font_of, font_with}
use Rattle.font.specs.Chains.{longest_chain, goes_on, chain_ends}
use Rattle.font.specs.Table.{good_table, seen_ends, good_client, SoundTables, SoundRecords}

-- ---- the records

module _ (t : List ℕ) (good : good_records t ≡ true) where
  good_length_lem : good_length t ≡ true
  unfolding good_records
  good_length_lem = ((and-eq-true_iff (good_length t) _).0 ((and-eq-true_iff _ _).0 ((and-eq-true_iff _ _).0 good).0).0).0

  abbrev whole : ℕ
  whole = header_bytes + character_bytes * character_count t

  pub whole_records : length t ≡ header_bytes + character_bytes * character_count t
  unfolding good_length
  whole_records = eqb-true (length t) whole ((and-eq-true_iff (eqb (length t) whole) _).0 good_length_lem).0

  few_records : character_count t ≤ most_characters
  unfolding good_length
  few_records = leb-true (character_count t) most_characters ((and-eq-true_iff (eqb (length t) whole) _).0 good_length_lem).1

  pub records_good : every good_character (character_records t) ≡ true
  unfolding good_records
  records_good = ((and-eq-true_iff (good_length t && every good_parameters (parameter_records t)) _).0 ((and-eq-true_iff _ _).0 good).0).1

  records_rise : rising (character_records t) ≡ true
  unfolding good_records
  records_rise =
      ((and-eq-true_iff
      (good_length t && every good_parameters (parameter_records t) && every good_character (character_records t))
      (rising (character_records t))).0 good).1

module _ (c : List ℕ) (good : good_client_records c ≡ true) where
  client_length : good_client_length c ≡ true
  unfolding good_client_records
  client_length = ((and-eq-true_iff (good_client_length c) _).0 ((and-eq-true_iff _ _).0 good).0).0

  whole_client : length c ≡ character_bytes * client_count c
  unfolding good_client_length
  whole_client = eqb-true _ _ ((and-eq-true_iff (eqb (length c) (character_bytes * client_count c)) _).0 client_length).0

  few_client : client_count c ≤ most_client_characters
  unfolding good_client_length
  few_client = leb-true _ _ ((and-eq-true_iff (eqb (length c) (character_bytes * client_count c)) _).0 client_length).1

  pub client_good : every good_character (client_records c) ≡ true
  unfolding good_client_records
  client_good = ((and-eq-true_iff (good_client_length c) _).0 ((and-eq-true_iff _ _).0 good).0).1

  client_rises : rising (client_records c) ≡ true
  unfolding good_client_records
  client_rises = ((and-eq-true_iff (good_client_length c && every good_character (client_records c)) _).0 good).1

  pub sound_client : SoundRecords c
  sound_client = record { whole = whole_client; few = omega (arith, few_client); good = client_good; rise = client_rises }

-- ours stand behind the PA records
module _ (t : List ℕ) where
  ours_count : client_count (drop header_bytes t) ≡ character_count t
  unfolding client_count character_count
  ours_count = rw length-drop

  pub ours_alone : client_records (drop header_bytes t) ≡ character_records t
  unfolding client_records character_records
  ours_alone = rw ours_count

  pub sound_ours : good_records t ≡ true → SoundRecords (drop header_bytes t)
  sound_ours good =
      record {
        whole = rw (ours_count, length-drop) (omega (arith, whole_records t good));
        few = rw ours_count (few_records t good);
        good = rw ours_alone (records_good t good);
        rise = rw ours_alone (records_rise t good);
      }

-- ---- the chains

-- of more than sixteen steps
abbrev too_long : Font → ℕ → ℕ → Option Metrics → Bool
too_long F size family m = goes_on F size family (suc longest_chain) m

module _ (F : Font) (size family code : ℕ) where
  -- the symbol of a record
  same_symbol : (r : List ℕ) → is_of size family code r ≡ true → (size_byte r ≡ size) × (family_byte r ≡ family) × (code_byte r ≡ code)
  unfolding is_of
  same_symbol r is =
      let all = (and-eq-true_iff (eqb (size_byte r) size && eqb (family_byte r) family) (eqb (code_byte r) code)).0 is in
      let both = (and-eq-true_iff (eqb (size_byte r) size) (eqb (family_byte r) family)).0 all.0 in
      (eqb-true _ _ both.0, eqb-true _ _ both.1, eqb-true _ _ all.1)

  -- of a record whose chain ends
  record_ends : (r : List ℕ) → is_of size family code r ≡ true → chain_ends F r ≡ true → too_long F size family (some (metrics_of r)) ≡ false
  unfolding chain_ends
  record_ends r is ends = let same = same_symbol r is in rw (← same.0, ← same.1) (not-true _ ends)

  -- that of a record, or of one behind it
  either_ends : (r : List ℕ) (rest : Option Metrics) (b : Bool) → is_of size family code r ≡ b → chain_ends F r ≡ true →
      too_long F size family rest ≡ false →
      too_long F size family (elim b [ true ↦ some (metrics_of r) | false ↦ rest ]) ≡ false
  either_ends r rest true is ends behind = record_ends r is ends
  either_ends r rest false is ends behind = behind

  lookup_ends : (l : List (List ℕ)) → every (chain_ends F) l ≡ true → too_long F size family (lookup size family code l) ≡ false
  unfolding every lookup goes_on
  lookup_ends [] ends = refl
  lookup_ends (r ∷ l) ends =
      let both = (and-eq-true_iff (chain_ends F r) (every (chain_ends F) l)).0 ends in
      either_ends r (lookup size family code l) (is_of size family code r) refl both.0 (lookup_ends l both.1)

  -- a symbol that some records have, where the chain of each ends as the font sees it
  pub seen_ends_lem : (l : List (List ℕ)) → every (seen_ends F) l ≡ true → (m : Metrics) → lookup size family code l ≡ some m →
      too_long F size family (F.symbol size family code) ≡ false
  unfolding every lookup seen_ends
  seen_ends_lem [] ends m is = absurd (none_some is)
  seen_ends_lem (r ∷ l) ends m is =
      let both = (and-eq-true_iff (seen_ends F r) (every (seen_ends F) l)).0 ends in
      go (is_of size family code r) refl both.0 (seen_ends_lem l both.1 m) is
    where
      go : (b : Bool) → is_of size family code r ≡ b → seen_ends F r ≡ true →
          (lookup size family code l ≡ some m → too_long F size family (F.symbol size family code) ≡ false) →
          elim b [ true ↦ some (metrics_of r) | false ↦ lookup size family code l ] ≡ some m →
          too_long F size family (F.symbol size family code) ≡ false
      go true own ends behind is = let same = same_symbol r own in rw (← same.0, ← same.1, ← same.2) (not-true _ ends)
      go false other ends behind is = behind is

-- ---- the whole table

module _ (t : List ℕ) (good : good_table t ≡ true) where
  pub good_records_lem : good_records t ≡ true
  unfolding good_table
  good_records_lem = ((and-eq-true_iff (good_records t) _).0 good).0

  pub good_header : header_bytes ≤ length t
  good_header = let filled = whole_records t good_records_lem in omega arith

  chains_end_alone : (size family code : ℕ) → too_long (font_of t) size family ((font_of t).symbol size family code) ≡ false
  unfolding good_table font_of
  chains_end_alone size family code =
      lookup_ends (font_of t) size family code (character_records t) ((and-eq-true_iff (good_records t) _).0 good).1

-- ---- a client's table

pub with_empty : (t : List ℕ) → font_with t [] ≡ font_of t
unfolding font_with font_of client_records client_count pieces lookup
with_empty t = refl

every_true : (f : List ℕ → Bool) (l : List (List ℕ)) → ((r : List ℕ) → f r ≡ true) → every f l ≡ true
unfolding every
every_true f [] all = refl
every_true f (r ∷ l) all = rw (all r) (every_true f l all)

-- what a lookup in ours alone asks for
pub sound_alone : (t : List ℕ) → good_records t ≡ true → SoundTables t []
unfolding good_client_records good_client_length client_records client_count pieces every rising
sound_alone t good = record { ours = good; client = refl }

pub empty_client : (t : List ℕ) → good_table t ≡ true → good_client t [] ≡ true
unfolding good_client good_client_records good_client_length client_records client_count pieces every rising seen_ends
empty_client t good =
    rw with_empty
    (every_true (seen_ends (font_of t)) (character_records t)
    (λ r. rw (chains_end_alone t good (size_byte r) (family_byte r) (code_byte r))))

module _ (t c : List ℕ) (good : good_table t ≡ true) (client : good_client t c ≡ true) where
  pub sound_tables : SoundTables t c
  unfolding good_client
  sound_tables =
      record {
        ours = good_records_lem t good;
        client = ((and-eq-true_iff (good_client_records c) _).0 ((and-eq-true_iff _ _).0 client).0).0;
      }

  seen_client : every (seen_ends (font_with t c)) (client_records c) ≡ true
  unfolding good_client
  seen_client = ((and-eq-true_iff (good_client_records c) _).0 ((and-eq-true_iff _ _).0 client).0).1

  seen_ours : every (seen_ends (font_with t c)) (character_records t) ≡ true
  unfolding good_client
  seen_ours = ((and-eq-true_iff (good_client_records c && every (seen_ends (font_with t c)) (client_records c)) _).0 client).1

  pub chains_end : (size family code : ℕ) → goes_on (font_with t c) size family (suc longest_chain) ((font_with t c).symbol size family code) ≡ false
  unfolding font_with font_of goes_on
  chains_end size family code = go (lookup size family code (client_records c)) (lookup size family code (character_records t)) refl refl
    where
      go : (own ours : Option Metrics) → lookup size family code (client_records c) ≡ own → lookup size family code (character_records t) ≡ ours →
          too_long (font_with t c) size family ((font_with t c).symbol size family code) ≡ false
      go (some m) ours e f = seen_ends_lem (font_with t c) size family code (client_records c) seen_client m e
      go none (some m) e f = seen_ends_lem (font_with t c) size family code (character_records t) seen_ours m f
      go none none e f = rw (e, f)
