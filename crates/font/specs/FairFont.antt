-- What the font of good tables promises of its words and codes.
--     Fair            every symbol that it has is one that a node can name, and no word of it is greater than the table's greatest
--     fair_font       the font of two good tables is fair, where they are made of bytes
-- Assumes nothing.
use Rattle.std.specs.Prelude.{◌≡◌, Bool, true, false, ◌&&◌, List, [], ◌∷◌, map, ℕ, zero, suc, ◌+◌, ◌≤◌, eqb, get_or, drop}
use Rattle.std.proofs.Math.Path.{refl}
use Rattle.std.proofs.Common.{◌∙◌, arith, leb-true, eqb-true}
use Rattle.std.proofs.Math.Option.{Option, none, some}
use Rattle.std.proofs.Math.Seq.{get_or-drop}
use Rattle.laws.specs.Truths.{both_true}
use Rattle.laws.specs.Options.{none_some}
use Rattle.words.specs.WordLaws.{Bytes}
use Rattle.font.specs.Records.{greatest_word, greatest_size, greatest_family, header_bytes, character_bytes, parameter_records, character_records, client_records, parameter_words, metric_words}
use Rattle.font.specs.Records.{size_byte, family_byte, code_byte, every, marked, good_word, good_parameters, good_character, rising, good_length, good_records}
use Rattle.font.specs.Font.{Font, Metrics, metrics_of, is_of, lookup, font_of, ◌or_ours◌, font_with}
use Rattle.font.specs.Table.{SoundTables}
use Rattle.font.specs.Keys.{InBytes, AllInBytes}
use Rattle.font.specs.FontLaws.{records_good, client_good}
use Rattle.font.specs.RecordsLaws.{in_bytes, good_within}

pub record Held (size family code : ℕ) (m : Metrics) : Type 0 where
  pub size_is : size ≤ greatest_size
  pub family_is : family ≤ greatest_family
  pub code_is : code ≤ 255
  pub width_is : m.width ≤ greatest_word
  pub height_is : m.height ≤ greatest_word
  pub italic_is : m.italic ≤ greatest_word

pub record Fair (F : Font) : Type 0 where
  pub held : (size family code : ℕ) (m : Metrics) → F.symbol size family code ≡ some m → Held size family code m
  pub word_is : (size number : ℕ) → F.parameter size number ≤ greatest_word

-- ---- words

good_at : (ws : List ℕ) (i : ℕ) → every good_word ws ≡ true → get_or ws i 0 ≤ greatest_word
unfolding every
good_at [] i t = omega arith
good_at (w ∷ ws) zero t = leb-true w greatest_word (both_true {p = good_word w} t).0
good_at (w ∷ ws) (suc i) t = good_at ws i (both_true {p = good_word w} t).1

-- ---- parameters

row_good : (l : List (List ℕ)) (size number : ℕ) → every good_parameters l ≡ true → get_or (get_or (map parameter_words l) size []) number 0 ≤ greatest_word
unfolding every good_parameters
row_good [] size number t = omega arith
row_good (r ∷ l) zero number t = good_at (parameter_words r) number (both_true {p = marked 80 65 r} (both_true {p = good_parameters r} t).0).1
row_good (r ∷ l) (suc size) number t = row_good l size number (both_true {p = good_parameters r} t).1

-- ---- characters

-- the record of a symbol, which has its size, family and code
of_record : (size family code : ℕ) (r : List ℕ) {m : Metrics} → is_of size family code r ≡ true → good_character r ≡ true → InBytes r →
    some (metrics_of r) ≡ some m → Held size family code m
unfolding is_of metrics_of
of_record size family code r {m} is good byte e =
    let keys = both_true {p = eqb (size_byte r) size && eqb (family_byte r) family} is in
    let two = both_true {p = eqb (size_byte r) size} keys.0 in
    let own = good_within r good in
    let same : metrics_of r ≡ m = cc in
    rw (← same)
    (record {
      size_is = omega (arith, own.size, eqb-true (size_byte r) size two.0);
      family_is = omega (arith, own.family, eqb-true (family_byte r) family two.1);
      code_is = omega (arith, byte.code_byte_lem, eqb-true (code_byte r) code keys.1);
      width_is = good_at (metric_words r) 0 own.words;
      height_is = good_at (metric_words r) 1 own.words;
      italic_is = good_at (metric_words r) 3 own.words;
    })

looked_up : (size family code : ℕ) (l : List (List ℕ)) {m : Metrics} → every good_character l ≡ true → AllInBytes l →
    lookup size family code l ≡ some m → Held size family code m
unfolding every lookup
looked_up size family code [] t bytes e = absurd (none_some e)
looked_up size family code (r ∷ l) {m} t bytes e =
    let good = both_true {p = good_character r} t in
    go (is_of size family code r) refl (λ f. looked_up size family code l good.1 (λ i. bytes (suc i)) f) e
  where
    go : (u : Bool) → is_of size family code r ≡ u → (lookup size family code l ≡ some m → Held size family code m) →
        elim u [ true ↦ some (metrics_of r) | false ↦ lookup size family code l ] ≡ some m → Held size family code m
    go true is rest e = of_record size family code r is (both_true {p = good_character r} t).0 (bytes 0) e
    go false is rest e = rest e

-- ---- good tables

parameters_good : (t : List ℕ) → good_records t ≡ true → every good_parameters (parameter_records t) ≡ true
unfolding good_records
parameters_good t good =
    let three = both_true {p = good_length t && every good_parameters (parameter_records t)} (both_true {q = rising (character_records t)} good).0 in
    (both_true {p = good_length t} three.0).1

module _ (t c : List ℕ) (tables : SoundTables t c) (byte : Bytes t) (byte-client : Bytes c) where
  -- by whether the client's table has the symbol
  symbol_held : (size family code : ℕ) (o : Option Metrics) {m : Metrics} → lookup size family code (client_records c) ≡ o →
      o or_ours (font_of t).symbol size family code ≡ some m → Held size family code m
  unfolding font_of character_records client_records
  symbol_held size family code none is e =
      looked_up size family code (character_records t) (records_good t tables.ours) (in_bytes character_bytes _ (drop header_bytes t) (λ i. rw get_or-drop (byte (header_bytes + i)))) e
  symbol_held size family code (some m) is e =
      looked_up size family code (client_records c) (client_good c tables.client) (in_bytes character_bytes _ c byte-client) (is ∙ e)

  pub fair_font : Fair (font_with t c)
  unfolding font_with font_of
  fair_font =
      record {
        held = λ size family code m e. symbol_held size family code (lookup size family code (client_records c)) refl e;
        word_is = λ size number. row_good (parameter_records t) size number (parameters_good t tables.ours);
      }
