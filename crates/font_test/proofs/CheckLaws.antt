-- The test of a table, test by test.
--     pass, stop                            tests joined by `&&`, after one that holds, or does not
--     good_bytes, good-table, length-..     the tests of a table, for `is_good`
--     part-..                               the same by the part behind the PA records
--     good-client, client-..                the tests of a client's table, for `is_good_client`
-- The idea: each definition is brought into the order of the code's tests, as a && (b && ..), and is then followed by
-- `pass` up to the test that decides.
-- Assumes nothing.
use mathlib.Core.Path.{◌≡◌, refl, sym, ap, ◌∙◌}
use mathlib.Core.Bool.{Bool, true, false, ◌&&◌, and_assoc}
use mathlib.Core.List.{List}
use Prim.Native.Nat.{ℕ, ◌+◌, ◌-◌, ◌*◌, ◌/◌, ◌<◌, ◌≤◌}
use native.Mathlib.Omega.{arith}
use borrow.Author.Tests.{le-leb, lt-leb, eq-eqb, ne_eqb}
use lib.ListN.{length, drop, length-drop}
use Rattle.font.specs.Records.{header_bytes, character_bytes, most_characters, most_client_characters, client_records, client_count}
use Rattle.font.specs.Records.{parameter_records, character_records, character_count}
use Rattle.font.specs.Records.{every, good_parameters, good_character, good_length, good_records, good_client_length, good_client_records}
use Rattle.font.specs.Font.{font_of, font_with}
use Rattle.font.specs.Chains.{chain_ends}
use Rattle.font.specs.Table.{good_table, seen_ends, good_client}
use Rattle.font.specs.FontLaws.{ours_alone}
use Rattle.font_records.specs.Rules.{sound_characters}

-- ---- tests joined by `&&`

pub pass : (a b : Bool) → a ≡ true → (a && b) ≡ b
pass a b e = rw e

pub stop : (a b : Bool) → a ≡ false → (a && b) ≡ false
stop a b e = rw e

-- ---- the whole table

in_order : (l p c o : Bool) → (l && p && c && o) ≡ (l && (p && (c && o)))
in_order false p c o = refl
in_order true false c o = refl
in_order true true c o = refl

module _ (t : List ℕ) where
  pub good_bytes : good_records t ≡ (good_length t && (every good_parameters (parameter_records t) && sound_characters (character_records t)))
  unfolding good_records sound_characters
  good_bytes = in_order (good_length t) (every good_parameters (parameter_records t)) _ _

  pub good-table :
      good_table t
      ≡ (good_length t
      && (every good_parameters (parameter_records t)
      && (sound_characters (character_records t) && every (chain_ends (font_of t)) (character_records t))))
  unfolding good_table
  good-table =
      ap (λ (bytes : Bool). bytes && every (chain_ends (font_of t)) (character_records t)) good_bytes
      ∙ and_assoc (good_length t) _ _
      ∙ ap (λ (rest : Bool). good_length t && rest) (and_assoc (every good_parameters (parameter_records t)) _ _)

-- how many CH records fit, as the code counts them, and the length that a table of so many has
abbrev count : List ℕ → ℕ
count t = (length t - header_bytes) / character_bytes

abbrev whole : List ℕ → ℕ
whole t = header_bytes + character_bytes * count t

module _ (t : List ℕ) where
  pub length_short : length t < header_bytes → good_length t ≡ false
  unfolding good_length character_count
  length_short h = stop _ _ (ne_eqb (length t) (whole t) (λ e. omega arith))

  pub length_broken : (length t ≡ whole t → ⊥) → good_length t ≡ false
  unfolding good_length character_count
  length_broken h = stop _ _ (ne_eqb (length t) (whole t) h)

  pub length_great : length t ≡ whole t → most_characters < count t → good_length t ≡ false
  unfolding good_length character_count
  length_great e h = pass _ _ (eq-eqb _ _ e) ∙ lt-leb _ _ h

  pub length_good : length t ≡ whole t → count t ≤ most_characters → good_length t ≡ true
  unfolding good_length character_count
  length_good e h = pass _ _ (eq-eqb _ _ e) ∙ le-leb _ _ h

-- the part s behind the PA records, of which n records are counted
module _ (t s : List ℕ) (is : s ≡ drop header_bytes t) (n : ℕ) (counted : n ≡ length s / character_bytes) where
  part_length : length s ≡ length t - header_bytes
  part_length = ap length is ∙ length-drop header_bytes t

  counted_all : n ≡ count t
  counted_all = counted ∙ ap (λ (m : ℕ). m / character_bytes) part_length

  pub part_broken : header_bytes ≤ length t → (length s ≡ character_bytes * n → ⊥) → good_length t ≡ false
  part_broken l h = length_broken t (λ e. h (omega (arith, e, part_length, counted_all)))

  part_whole : header_bytes ≤ length t → length s ≡ character_bytes * n → length t ≡ whole t
  part_whole l h = omega (arith, h, part_length, counted_all)

  pub part_great : header_bytes ≤ length t → length s ≡ character_bytes * n → most_characters < n → good_length t ≡ false
  part_great l e h = length_great t (part_whole l e) (omega (arith, h, counted_all))

  pub part_good : header_bytes ≤ length t → length s ≡ character_bytes * n → n ≤ most_characters → good_length t ≡ true
  part_good l e h = length_good t (part_whole l e) (omega (arith, h, counted_all))

  -- the records of the part are sound, or not
  pub part_records : {b : Bool} → b ≡ sound_characters (client_records s) → b ≡ sound_characters (character_records t)
  part_records h = h ∙ ap sound_characters (ap client_records is ∙ ours_alone t)

  pub our_part_records : client_records s ≡ character_records t
  our_part_records = ap client_records is ∙ ours_alone t

  -- what all tests but that of the chains say together
  pub part_tested : header_bytes ≤ length t → length s ≡ character_bytes * n → n ≤ most_characters →
      {a b : Bool} → a ≡ every good_parameters (parameter_records t) → a ≡ true → b ≡ sound_characters (client_records s) → b ≡ true →
      good_records t ≡ true
  part_tested l e h {a} {b} p pt q qt =
      good_bytes t ∙ pass _ _ (part_good l e h) ∙ pass _ _ (sym p ∙ pt) ∙ sym (part_records q) ∙ qt

-- ---- a client's table

in_turn_client : (l g r a b : Bool) → (l && g && r && a && b) ≡ (l && ((g && r) && (a && b)))
in_turn_client false g r a b = refl
in_turn_client true false r a b = refl
in_turn_client true true r a b = and_assoc r a b

module _ (t c : List ℕ) where
  pub good-client :
      good_client t c
      ≡ (good_client_length c
      && (sound_characters (client_records c)
      && (every (seen_ends (font_with t c)) (client_records c) && every (seen_ends (font_with t c)) (character_records t))))
  unfolding good_client good_client_records sound_characters
  good-client = in_turn_client (good_client_length c) (every good_character (client_records c)) _ _ _

module _ (t c : List ℕ) where
  pub good_client_records_lem : good_client_records c ≡ (good_client_length c && sound_characters (client_records c))
  unfolding good_client_records sound_characters
  good_client_records_lem = and_assoc (good_client_length c) _ _

  -- of which n records are counted
  module _ (n : ℕ) (counted : n ≡ length c / character_bytes) where
    pub client_broken : (length c ≡ character_bytes * n → ⊥) → good_client_length c ≡ false
    unfolding good_client_length client_count
    client_broken h = stop _ _ (ne_eqb (length c) _ (λ e. h (omega (arith, e, counted))))

    pub client_great : length c ≡ character_bytes * n → most_client_characters < n → good_client_length c ≡ false
    unfolding good_client_length client_count
    client_great e h =
        let whole : length c ≡ character_bytes * (length c / character_bytes) = omega (arith, e, counted) in
        pass _ _ (eq-eqb _ _ whole) ∙ lt-leb _ _ (omega (arith, h, counted))

    client_sized : length c ≡ character_bytes * n → n ≤ most_client_characters → good_client_length c ≡ true
    unfolding good_client_length client_count
    client_sized e h =
        let whole : length c ≡ character_bytes * (length c / character_bytes) = omega (arith, e, counted) in
        pass _ _ (eq-eqb _ _ whole) ∙ le-leb _ _ (omega (arith, h, counted))

    module _ (e : length c ≡ character_bytes * n) (h : n ≤ most_client_characters) {b : Bool} (is : b ≡ sound_characters (client_records c)) where
      pub client_unsound : b ≡ false → good_client t c ≡ false
      client_unsound f = good-client t c ∙ pass _ _ (client_sized e h) ∙ stop _ _ (sym is ∙ f)

      -- what all tests but that of the chains say together
      pub client_tested : b ≡ true → good_client_records c ≡ true
      client_tested f = good_client_records_lem ∙ pass _ _ (client_sized e h) ∙ sym is ∙ f

      -- and then that of the chains
      pub client_chained : b ≡ true → good_client t c ≡ (every (seen_ends (font_with t c)) (client_records c) && every (seen_ends (font_with t c)) (character_records t))
      client_chained f = good-client t c ∙ pass _ _ (client_sized e h) ∙ pass _ _ (sym is ∙ f)
