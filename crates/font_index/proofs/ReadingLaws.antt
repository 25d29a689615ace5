-- A lookup by the index.
--     absent_size, absent_family, asked    a symbol's bit, as the code asks for it
--     Counting       the ones before a symbol's bit, as the code counts them: `counting_start`, `counting_more`, `counted_last`
--     present_is     the bit of a symbol is set where a record is the symbol's
--     number_is      the start and the ones below the bit: how many records have a lesser key
--     found_by, none_by    the record that a lookup by the index comes to is the one that a search comes to
--     lies_there, lies_nowhere    the same of records one after the other, by where they stand
--     start_few      where there is one, its size and family are those of a table, and the start is no more than its records
-- Assumes nothing.
use mathlib.Core.Path.{◌≡◌, refl, sym, ap, ap₂, ◌∙◌}
use mathlib.Core.Bool.{Bool, true, false, ◌&&◌, ◌||◌, and-false}
use mathlib.Core.List.{List, [], ◌∷◌}
use Prim.Native.Nat.{ℕ, zero, suc, ◌+◌, ◌*◌, ◌/◌, ◌%◌, ◌^◌, ◌<◌, ◌≤◌}
use native.Mathlib.Omega.{arith}
use borrow.Author.Tests.{ne_eqb, le-leb, lt-leb, leb-true, leb-false}
use lib.Bits.{bit_and, and_mask}
use lib.Count.{ones}
use lib.Dec.{leb, eqb}
use lib.ListN.{length, get_or}
use Rattle.laws.specs.Truths.{both_true, both_false}
use Rattle.words.specs.WordLaws as bytes
use Rattle.font.specs.Records.{character_bytes, most_characters, greatest_size, greatest_family, client_records, size_byte, family_byte, code_byte, every, good_character, rising}
use Rattle.font.specs.Font.{is_of}
use Rattle.font.specs.Keys.{key_of, key_in, Bytes, AllInBytes}
use Rattle.font.specs.Finding.{FoundAt, found_none, found_there}
use Rattle.font_index.specs.Index.{family_count, codes_in_word, bit_words, group_words, one, has, bits, earlier, start_of, Indexes, ones_below, group_word, ones_before, present_by, number_by}
use Rattle.font.specs.Table.{SoundRecords}
use Rattle.font_index.specs.IndexLaws.{code_of, word_at}
use Rattle.font.specs.RecordsLaws.{all_within, count, recorded, record_at, counted, few, numbered, all_in_bytes}
use Rattle.font_index.proofs.BitLaws.{present_in, bit_at, bits_below, ones_bits}
use Rattle.font_index.specs.TallyLaws.{tally_le}
use Rattle.font_index.proofs.RankLaws.{present_none, present_on, rank, rank_code, Ranked, ranked}

-- ---- what an index says of a symbol, as it is asked

module _ (words : List ℕ) (size family code : ℕ) where
  pub absent_size : greatest_size < size → present_by words size family code ≡ false
  unfolding present_by
  absent_size h = ap (λ (t : Bool). t && leb family greatest_family && bit_is) (lt-leb size greatest_size h)
    where
      bit_is : Bool
      bit_is = eqb (group_word words size family (code / codes_in_word) / 2 ^ (code % codes_in_word) % 2) 1

  pub absent_family : greatest_family < family → present_by words size family code ≡ false
  unfolding present_by
  absent_family h =
      ap (λ (t : Bool). leb size greatest_size && t && eqb (group_word words size family (code / codes_in_word) / 2 ^ (code % codes_in_word) % 2) 1) (lt-leb family greatest_family h)
      ∙ ap (λ (t : Bool). t && eqb (group_word words size family (code / codes_in_word) / 2 ^ (code % codes_in_word) % 2) 1) (and-false (leb size greatest_size))

  pub asked : size ≤ greatest_size → family ≤ greatest_family → (group : ℕ) → group ≡ group_words * (family_count * size + family) →
      eqb (bit_and (get_or words (group + code / 64) 0 / 2 ^ (code % 64)) 1) 1 ≡ present_by words size family code
  unfolding present_by
  asked s f group e =
      ap (λ (x : ℕ). eqb x 1) (and_mask (get_or words (group + code / 64) 0 / 2 ^ (code % 64)) 1)
      ∙ ap (λ (g : ℕ). eqb (get_or words (g + code / 64) 0 / 2 ^ (code % 64) % 2) 1) e
      ∙ sym (ap₂ (λ (a b : Bool). a && b && eqb (group_word words size family (code / codes_in_word) / 2 ^ (code % codes_in_word) % 2) 1) (le-leb size greatest_size s) (le-leb family greatest_family f))

-- the ones before a symbol's bit, as the code counts them: those of so many words, and the start
pub record Counting (words : List ℕ) (size family last number word : ℕ) : Type 0 where
  pub number_so : number ≡ group_word words size family bit_words + ones_before words size family word
  pub within : word ≤ last
  pub small : number ≤ most_characters + codes_in_word * word

module _ (words : List ℕ) (size family last group : ℕ) (at : group ≡ group_words * (family_count * size + family)) where
  -- a word of the group, where the code reads it
  read_at : (k : ℕ) → get_or words (group + k) 0 ≡ group_word words size family k
  read_at k = ap (λ (g : ℕ). get_or words (g + k) 0) at

  pub counting_start : group_word words size family bit_words ≤ most_characters → Counting words size family last (get_or words (group + bit_words) 0) 0
  unfolding ones_before
  counting_start few = record { number_so = omega (arith, read_at bit_words); within = omega arith; small = omega (arith, read_at bit_words) }

  pub counting_more : (number word : ℕ) → ones (get_or words (group + word) 0) ≤ codes_in_word → word < last → Counting words size family last number word →
      Counting words size family last (number + ones (get_or words (group + word) 0)) (word + 1)
  unfolding ones_before
  counting_more number word few more c =
      let e : word + 1 ≡ suc word = omega arith in
      record {
        number_so = rw e (omega (arith, c.number_so, ap ones (read_at word)));
        within = omega arith;
        small = omega (arith, c.small);
      }

pub counted_last : (words : List ℕ) (size family code group : ℕ) → group ≡ group_words * (family_count * size + family) → (number word : ℕ) →
    code / codes_in_word ≤ word → Counting words size family (code / codes_in_word) number word →
    number + ones_below (get_or words (group + code / codes_in_word) 0) (code % codes_in_word) ≡ number_by words size family code
unfolding number_by
counted_last words size family code group at number word done c =
    let e : word ≡ code / codes_in_word = omega (arith, c.within) in
    let low = ap (λ (w : ℕ). ones_below w (code % codes_in_word)) (read_at words size family (code / codes_in_word) group at (code / codes_in_word)) in
    ap₂ (λ (m n : ℕ). m + n) (c.number_so ∙ ap (λ (k : ℕ). group_word words size family bit_words + ones_before words size family k) e) low

-- ---- which symbols have a record

has_none : (size family code : ℕ) (l : List (List ℕ)) → has size family l code ≡ false → (i : ℕ) → i < length l → is_of size family code (get_or l i []) ≡ false
unfolding has
has_none size family code [] is i h = absurd (omega arith)
has_none size family code (r ∷ l) is zero h = (both_false is).0
has_none size family code (r ∷ l) is (suc i) h = has_none size family code l (both_false {p = is_of size family code r} is).1 i (omega arith)

-- the bit of a symbol as a test
one_test : (b : Bool) → eqb (one b) 1 ≡ b
one_test true = refl
one_test false = refl

module _ (size family code : ℕ) where
  has_false : (l : List (List ℕ)) → ((i : ℕ) → i < length l → is_of size family code (get_or l i []) ≡ false) → has size family l code ≡ false
  unfolding has
  has_false [] other = refl
  has_false (r ∷ l) other = ap₂ (λ (a b : Bool). a || b) (other 0 (omega arith)) (has_false l (λ i h. other (suc i) (omega arith)))

  other_size : (r : List ℕ) → size_byte r < size → is_of size family code r ≡ false
  unfolding is_of
  other_size r h = ap (λ (t : Bool). t && eqb (family_byte r) family && eqb (code_byte r) code) (ne_eqb _ _ (λ (e : size_byte r ≡ size). omega arith))

  other_family : (r : List ℕ) → family_byte r < family → is_of size family code r ≡ false
  unfolding is_of
  other_family r h =
      ap (λ (t : Bool). eqb (size_byte r) size && t && eqb (code_byte r) code) (ne_eqb _ _ (λ (e : family_byte r ≡ family). omega arith))
      ∙ ap (λ (t : Bool). t && eqb (code_byte r) code) (and-false (eqb (size_byte r) size))

-- ---- a lookup by the index

module _ (l : List (List ℕ)) (bytes : AllInBytes l) (good : every good_character l ≡ true) (up : rising l ≡ true)
    (words : List ℕ) (is : Indexes words l) (size family code : ℕ) (b : Bytes family code) where
  abbrev P : ℕ → Bool
  P = has size family l

  abbrev place : ℕ
  place = code / codes_in_word

  abbrev bit : ℕ
  bit = code % codes_in_word

  -- in a size and family that a table may have
  module _ (s : size ≤ greatest_size) (f : family ≤ greatest_family) where
    code_at : (k : ℕ) → k < bit_words → group_word words size family k ≡ bits P (codes_in_word * k) codes_in_word
    code_at k h = word_at words l is size family k (omega arith) (omega arith) (omega arith) ∙ code_of l size family k h

    here : group_word words size family place ≡ bits P (codes_in_word * place) codes_in_word
    here = code_at place (omega (arith, b.code_byte_lem))

    bit_is_lem : group_word words size family place / 2 ^ bit % 2 ≡ one (P code)
    bit_is_lem =
        let whole : codes_in_word * place + bit ≡ code = omega arith in
        ap (λ (w : ℕ). w / 2 ^ bit % 2) here ∙ bit_at P (codes_in_word * place) codes_in_word bit (omega arith) ∙ ap (λ (c : ℕ). one (P c)) whole

    before_is : (k : ℕ) → k ≤ bit_words → ones_before words size family k ≡ present_in P 0 (codes_in_word * k)
    unfolding ones_before
    before_is zero h = sym (present_none P 0)
    before_is (suc k) h =
        let on : codes_in_word * suc k ≡ codes_in_word * k + codes_in_word = omega arith in
        ap₂ (λ (m n : ℕ). m + n) (before_is k (omega arith)) (ap ones (code_at k (omega arith)) ∙ ones_bits P (codes_in_word * k) codes_in_word)
        ∙ sym (ap (present_in P 0) on ∙ present_on P (codes_in_word * k) codes_in_word)

    number_is : number_by words size family code ≡ rank (key_of size family code) l
    unfolding number_by
    number_is =
        let whole : codes_in_word * place + bit ≡ code = omega arith in
        let low : ones_below (group_word words size family place) bit ≡ present_in P (codes_in_word * place) bit =
        ap (λ (w : ℕ). ones (w % 2 ^ bit)) here
        ∙ ap ones (bits_below P (codes_in_word * place) codes_in_word bit (omega arith))
        ∙ ones_bits P (codes_in_word * place) bit in
        let earlier = before_is place (omega (arith, b.code_byte_lem)) in
        let all = sym (ap (present_in P 0) whole) ∙ present_on P (codes_in_word * place) bit in
        let start : group_word words size family bit_words ≡ start_of l size family = word_at words l is size family bit_words (omega arith) (omega arith) (omega arith) in
        omega (arith, low, earlier, all, start) ∙ rank_code l bytes up size family b.family_byte_lem code b.code_byte_lem

  present_is : present_by words size family code ≡ has size family l code
  unfolding present_by
  present_is = go (leb size greatest_size) refl (leb family greatest_family) refl
    where
      go : (t : Bool) → leb size greatest_size ≡ t → (u : Bool) → leb family greatest_family ≡ u →
          (t && u && eqb (group_word words size family place / 2 ^ bit % 2) 1) ≡ has size family l code
      go true s true f =
          ap (λ (n : ℕ). eqb n 1) (bit_is_lem (leb-true size greatest_size s) (leb-true family greatest_family f)) ∙ one_test (P code)
      go false s u f = sym (has_false size family code l (λ i h. other_size size family code _ (let w = all_within l good i h in let g = leb-false size greatest_size s in omega (arith, w.size))))
      go true s false f = sym (has_false size family code l (λ i h. other_family size family code _ (let w = all_within l good i h in let g = leb-false family greatest_family f in omega (arith, w.family))))

  module _ (present : present_by words size family code ≡ true) where
    sized : (size ≤ greatest_size) × (family ≤ greatest_family)
    unfolding present_by
    sized =
        let both = both_true {p = leb size greatest_size && leb family greatest_family} present in
        let each = both_true {p = leb size greatest_size} both.0 in
        (leb-true size greatest_size each.0, leb-true family greatest_family each.1)

    there : Ranked size family code b l
    there = ranked size family code b l bytes up (sym present_is ∙ present)

    number : number_by words size family code ≡ rank (key_of size family code) l
    number = number_is sized.0 sized.1

    number_within : number_by words size family code < length l
    number_within = omega (arith, number, there.within)

    found_by : FoundAt size family code l (get_or l (number_by words size family code) []) (character_bytes * number_by words size family code)
    found_by =
        found_there l bytes size family code b up (number_by words size family code) number_within
        (ap (λ (n : ℕ). key_in (get_or l n [])) number ∙ there.same)

  none_by : present_by words size family code ≡ false → FoundAt size family code l [] (character_bytes * length l)
  none_by absent = found_none size family code l (has_none size family code l (sym present_is ∙ absent))

-- ---- among records one after the other

module _ (s : List ℕ) (sound : SoundRecords s) (byte : bytes.Bytes s) (words : List ℕ) (is : Indexes words (client_records s))
    (size family code : ℕ) (b : Bytes family code) where
  abbrev at : ℕ
  at = number_by words size family code

  all : AllInBytes (client_records s)
  all = all_in_bytes s byte

  pub lies_there : present_by words size family code ≡ true →
      (at < count s) × FoundAt size family code (client_records s) (numbered s at) (character_bytes * at)
  lies_there present =
      let inside : at < count s = omega (arith, number_within (client_records s) all sound.good sound.rise words is size family code b present, recorded s) in
      let found = found_by (client_records s) all sound.good sound.rise words is size family code b present in
      (inside, record { bytes = found.bytes ∙ record_at s at inside; place = found.place })

  pub lies_nowhere : present_by words size family code ≡ false → FoundAt size family code (client_records s) [] (length s)
  lies_nowhere absent =
      let found = none_by (client_records s) all sound.good sound.rise words is size family code b absent in
      record { bytes = found.bytes; place = omega (arith, found.place, recorded s, counted s sound) }

  pub start_few : present_by words size family code ≡ true →
      (size ≤ greatest_size) × (family ≤ greatest_family) × (group_word words size family bit_words ≤ most_characters)
  start_few present =
      let both = sized (client_records s) all sound.good sound.rise words is size family code b present in
      let start = word_at words (client_records s) is size family bit_words (omega (arith, both)) (omega (arith, both)) (omega arith) in
      (both.0, both.1, omega (arith, start, tally_le (earlier size family) (client_records s), recorded s, few s sound))
