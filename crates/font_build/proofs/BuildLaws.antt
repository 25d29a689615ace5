-- How an index comes about.
--     marked_none    words that are all 0 have no record marked; `cleared`, where the code made them so
--     marked_more    one more record is marked; `marked_so`: as the code does it
--     MarkedFrom     the records from a number on are; `marked_from` takes the one before them
--     Summing        some counts are summed: `summing_none`, `summing_more` as the loop goes
--     running_is     the counts before a size and family are the records before it
--     built          marked and summed, the words start with the index
-- Assumes nothing.
use mathlib.Core.Path.{◌≡◌, refl, sym, ap, ap₂, ◌∙◌}
use mathlib.Core.Bool.{Bool, true, false, ◌&&◌, ◌||◌, and-false}
use mathlib.Core.List.{List, [], ◌∷◌, ◌++◌}
use Prim.Native.Nat.{ℕ, zero, suc, ◌+◌, ◌-◌, ◌*◌, ◌/◌, ◌%◌, ◌^◌, ◌<◌, ◌≤◌}
use native.Mathlib.Omega.{arith}
use borrow.Author.Tests.{lt-ltb, le-ltb, eq-eqb, eqb-true, eqb-false, ltb-true, ltb-false}
use lib.Bits.{bit_or}
use lib.Dec.{ltb, eqb}
use lib.ListN.{length, get_or, drop, set, length-set, length-drop, drop_of_length-le, take-append-drop, take, get_or-append}
use lib.Seq.{drop-append_seam}
use Rattle.std.proofs.lemmas.List.{length-replicate, get_or-replicate, length-append, length-take-le}
use Rattle.std.specs.Prelude.{replicate}
use Rattle.font.specs.declared.Key.{Key}
use Rattle.font.specs.Values.{KeyOf}
use lib.Seq.{drop-cons, get_or-set_same, get_or-set_other, drop-set-lt}
use Rattle.words.specs.WordLaws.{Bytes}
use Rattle.font.specs.Records.{size_count, most_characters, greatest_size, greatest_family, client_records, size_byte, family_byte, code_byte}
use Rattle.font.specs.Font.{is_of}
use Rattle.font.specs.Keys.{in_order, same_parts}
use Rattle.font.specs.Table.{SoundRecords}
use Rattle.font_index.specs.Index.{family_count, codes_in_word, bit_words, group_words, index_words, one, has, bits, tally, earlier, code_word, start_of, group_of, index_of, group_word}
use Rattle.font_build.specs.Building.{word_place, with_bit, with_count, marked_with, is_in, Marked, group_count, count_of, running, Summed}
use Rattle.font.specs.RecordsLaws.{count as records_in, numbered, recorded, record_at, few, all_in_bytes, Within, all_within}
use Rattle.font_build.proofs.BitLaws.{bits_same, bits_with}
use Rattle.font_index.specs.BitLaws.{mask_is}
use Rattle.font_index.specs.TallyLaws.{tally_none, tally_sum, tally_le}
use Rattle.font_index.specs.IndexLaws.{index_front}

-- ---- no record is marked

bits_none : (first n : ℕ) → bits (λ c. false) first n ≡ 0
unfolding bits
bits_none first zero = refl
bits_none first (suc n) = omega (arith, bits_none (suc first) n)

none_coded : (size family first n : ℕ) → bits (has size family []) first n ≡ 0
unfolding has
none_coded size family first n = bits_same (λ c. false) (has size family []) first n (λ c h k. refl) ∙ bits_none first n

pub marked_none : (words : List ℕ) → index_words ≤ length words → ((i : ℕ) → i < index_words → get_or words i 0 ≡ 0) → Marked words []
unfolding tally
marked_none words long zeros =
    record {
      long = long;
      coded = λ size family k s f h. zeros _ (omega arith) ∙ sym (none_coded size family (codes_in_word * k) codes_in_word);
      counted = λ size family s f. zeros _ (omega arith);
    }

-- the words of the index were made 0, to `zeros`, and those behind it are as before
pub cleared : (words zeros : List ℕ) → index_words ≤ length words → zeros ≡ replicate (length (take index_words words)) 0 →
    Marked (zeros ++ drop index_words words) [] × (drop index_words (zeros ++ drop index_words words) ≡ drop index_words words)
cleared words zeros long are =
    let size : length (take index_words words) ≡ index_words = length-take-le index_words words long in
    let all : zeros ≡ replicate index_words 0 = are ∙ ap (λ (n : ℕ). replicate n 0) size in
    let whole : length zeros ≡ index_words = ap length all ∙ length-replicate {A = ℕ} index_words 0 in
    let behind = drop index_words words in (
      marked_none (zeros ++ behind) (omega (arith, length-append zeros behind, whole))
          (λ i h. get_or-append zeros behind 0 i (omega (arith, whole)) ∙ ap (λ (l : List ℕ). get_or l i 0) all ∙ get_or-replicate index_words i 0 0 h),
      ap (λ (n : ℕ). drop n (zeros ++ behind)) (sym whole) ∙ drop-append_seam zeros behind,
    )

-- ---- whose a record is

module _ (r : List ℕ) where
  not_of : (size family code : ℕ) → ((size_byte r ≡ size) → (family_byte r ≡ family) → (code_byte r ≡ code) → ⊥) → is_of size family code r ≡ false
  unfolding is_of
  not_of size family code no_such = go (eqb (size_byte r) size) refl (eqb (family_byte r) family) refl (eqb (code_byte r) code) refl
    where
      go : (a : Bool) → eqb (size_byte r) size ≡ a → (b : Bool) → eqb (family_byte r) family ≡ b → (c : Bool) → eqb (code_byte r) code ≡ c →
          (a && b && c) ≡ false
      go false s b f c e = refl
      go true s false f c e = refl
      go true s true f false e = refl
      go true s true f true e = absurd (no_such (eqb-true _ _ s) (eqb-true _ _ f) (eqb-true _ _ e))

  not_in : (size family : ℕ) → ((size_byte r ≡ size) → (family_byte r ≡ family) → ⊥) → is_in size family r ≡ false
  unfolding is_in
  not_in size family no_such = go (eqb (size_byte r) size) refl (eqb (family_byte r) family) refl
    where
      go : (a : Bool) → eqb (size_byte r) size ≡ a → (b : Bool) → eqb (family_byte r) family ≡ b → (a && b) ≡ false
      go false s b f = refl
      go true s false f = refl
      go true s true f = absurd (no_such (eqb-true _ _ s) (eqb-true _ _ f))

  is_in_lem : (size family : ℕ) → size_byte r ≡ size → family_byte r ≡ family → is_in size family r ≡ true
  unfolding is_in
  is_in_lem size family s f = ap₂ (λ (a b : Bool). a && b) (eq-eqb _ _ s) (eq-eqb _ _ f)

  is_of_lem : (size family code : ℕ) → size_byte r ≡ size → family_byte r ≡ family → is_of size family code r ≡ eqb (code_byte r) code
  unfolding is_of
  is_of_lem size family code s f = ap₂ (λ (a b : Bool). a && b && eqb (code_byte r) code) (eq-eqb _ _ s) (eq-eqb _ _ f)

-- ---- one more record is marked

module _ (words : List ℕ) (r : List ℕ) (l : List (List ℕ)) (w : Within r) (byte : code_byte r < 256) (m : Marked words l) where
  abbrev place : ℕ
  place = word_place words (size_byte r) (family_byte r) (code_byte r / codes_in_word)

  abbrev count : ℕ
  count = word_place words (size_byte r) (family_byte r) bit_words

  abbrev bitten : List ℕ
  bitten = with_bit words (size_byte r) (family_byte r) (code_byte r)

  abbrev new : List ℕ
  new = with_count bitten (size_byte r) (family_byte r)

  small : (place < index_words) × (count < index_words) × (code_byte r / codes_in_word < bit_words)
  small = (omega (arith, w.size, w.family, byte), omega (arith, w.size, w.family), omega (arith, byte))

  -- the words of bits: that of the record's code has its bit, and the others stay
  module _ (size family k : ℕ) (s : size < size_count) (f : family < family_count) (h : k < bit_words) where
    abbrev at : ℕ
    at = word_place words size family k

    abbrev was : ℕ
    was = bits (has size family l) (codes_in_word * k) codes_in_word

    same_word : at ≡ place → (size_byte r ≡ size) × (family_byte r ≡ family) × (code_byte r / codes_in_word ≡ k)
    same_word e = (omega (arith, w.family, small.2), omega (arith, w.family, small.2), omega (arith, w.family, small.2))

    with_bit_lem : at ≡ place → bit_or was (2 ^ (code_byte r % codes_in_word)) ≡ code_word (r ∷ l) size family k
    unfolding has
    with_bit_lem e =
        let same = same_word e in
        let code : codes_in_word * k + code_byte r % codes_in_word ≡ code_byte r = omega (arith, same.2) in
        bits_with (has size family l) (has size family (r ∷ l)) (codes_in_word * k) codes_in_word (code_byte r % codes_in_word) (omega arith)
        (λ c g j. ap (λ (t : Bool). t || has size family l c) (is_of_lem r size family c same.0 same.1 ∙ ap (λ (d : ℕ). eqb d c) (sym code)))

    no_bit : (at ≡ place → ⊥) → code_word (r ∷ l) size family k ≡ was
    unfolding has
    no_bit other =
        bits_same (has size family l) (has size family (r ∷ l)) (codes_in_word * k) codes_in_word
        (λ c g j.
        ap (λ (t : Bool). t || has size family l c)
        (not_of r size family c
        (λ (s : size_byte r ≡ size) (f : family_byte r ≡ family) (e : code_byte r ≡ c). other (let k : code_byte r / codes_in_word ≡ k = omega arith in omega arith))))

    coded_by : (t : Bool) → eqb at place ≡ t → get_or bitten at 0 ≡ code_word (r ∷ l) size family k
    coded_by true is =
        let e : at ≡ place = eqb-true at place is in
        let same = same_word e in
        ap (λ (i : ℕ). get_or bitten i 0) e
        ∙ get_or-set_same words place _ 0 (omega (arith, small.0, m.long))
        ∙ ap (λ (v : ℕ). bit_or v (2 ^ (code_byte r % codes_in_word))) (ap (λ (i : ℕ). get_or words i 0) (sym e) ∙ m.coded size family k s f h)
        ∙ with_bit_lem e
    coded_by false is =
        let other = eqb-false at place is in
        get_or-set_other words place at _ 0 other ∙ m.coded size family k s f h ∙ sym (no_bit other)

    coded_more : get_or new at 0 ≡ code_word (r ∷ l) size family k
    coded_more = get_or-set_other bitten count at _ 0 (λ (e : at ≡ count). omega (arith, w.family)) ∙ coded_by (eqb at place) refl

  -- the counts: that of the record's size and family is one more
  module _ (size family : ℕ) (s : size < size_count) (f : family < family_count) where
    abbrev here : ℕ
    here = word_place words size family bit_words

    kept : group_word bitten size family bit_words ≡ tally (is_in size family) l
    kept = get_or-set_other words place here _ 0 (λ (e : here ≡ place). omega (arith, w.family, small.2)) ∙ m.counted size family s f

    counted_by : (t : Bool) → eqb here count ≡ t → get_or new here 0 ≡ tally (is_in size family) (r ∷ l)
    unfolding tally
    counted_by true is =
        let e : here ≡ count = eqb-true here count is in
        let group : family_count * size_byte r + family_byte r ≡ family_count * size + family = omega arith in
        let a : (family_count * size_byte r + family_byte r) / family_count ≡ size_byte r = omega (arith, w.family) in
        let b : (family_count * size + family) / family_count ≡ size = omega arith in
        let same : size_byte r ≡ size = sym a ∙ ap (λ (g : ℕ). g / family_count) group ∙ b in
        let own : is_in size family r ≡ true = is_in_lem r size family same (omega arith) in
        let long : count < length bitten = omega (arith, length-set words place (bit_or (group_word words (size_byte r) (family_byte r) (code_byte r / codes_in_word)) (2 ^ (code_byte r % codes_in_word))), m.long, small.1) in
        ap (λ (i : ℕ). get_or new i 0) e
        ∙ get_or-set_same bitten count _ 0 long
        ∙ ap (λ (i : ℕ). get_or bitten i 0 + 1) (sym e)
        ∙ omega (arith, kept, ap one own)
    counted_by false is =
        let other = eqb-false here count is in
        let foreign : is_in size family r ≡ false = not_in r size family (λ (a : size_byte r ≡ size) (b : family_byte r ≡ family). other (omega arith)) in
        get_or-set_other bitten count here _ 0 other ∙ kept ∙ omega (arith, ap one foreign)

    counted_more : get_or new here 0 ≡ tally (is_in size family) (r ∷ l)
    counted_more = counted_by (eqb here count) refl

  marked_more : Marked (marked_with words (size_byte r) (family_byte r) (code_byte r)) (r ∷ l)
  unfolding marked_with
  marked_more =
      record {
        long = omega (arith, length-set bitten count (group_word bitten (size_byte r) (family_byte r) bit_words + 1), length-set words place (bit_or (group_word words (size_byte r) (family_byte r) (code_byte r / codes_in_word)) (2 ^ (code_byte r % codes_in_word))), m.long);
        coded = coded_more;
        counted = counted_more;
      }

  past_more : drop index_words (marked_with words (size_byte r) (family_byte r) (code_byte r)) ≡ drop index_words words
  unfolding marked_with
  past_more = drop-set-lt index_words bitten count _ small.1 ∙ drop-set-lt index_words words place _ small.0

-- the records from a number on are marked
pub record MarkedFrom (old new : List ℕ) (l : List (List ℕ)) (i : ℕ) : Type 0 where
  pub within : i ≤ length l
  pub marked : Marked new (drop i l)
  pub past : drop index_words new ≡ drop index_words old

pub same_words : (old new : List ℕ) → index_words ≤ length old → index_words ≤ length new → drop index_words new ≡ drop index_words old → length new ≡ length old
same_words old new a b e = omega (arith, length-drop index_words new, length-drop index_words old, ap length e)

pub marked_from_end : (words : List ℕ) (l : List (List ℕ)) (n : ℕ) → length l ≡ n → Marked words [] → MarkedFrom words words l n
marked_from_end words l n e m = record { within = omega arith; marked = rw (drop_of_length-le l {i = n} (omega arith)) m; past = refl }

-- the next one, where the code reads it
module _ (s : List ℕ) (sound : SoundRecords s) (byte : Bytes s) (old new : List ℕ) (i : ℕ) (more : 0 < i)
    (so : MarkedFrom old new (client_records s) i) where
  abbrev l : List (List ℕ)
  l = client_records s

  abbrev r : List ℕ
  r = get_or l (i - 1) []

  inside : i - 1 < length l
  inside = omega (arith, so.within)

  pub inside_count : i - 1 < records_in s
  inside_count = omega (arith, inside, recorded s)

  kept_to : Within r
  kept_to = all_within l sound.good (i - 1) inside

  rest : drop (i - 1) l ≡ r ∷ drop i l
  rest = let e : suc (i - 1) ≡ i = omega arith in drop-cons l (i - 1) [] inside ∙ ap (λ (k : ℕ). r ∷ drop k l) e

  few_marked : group_word new (size_byte r) (family_byte r) bit_words < most_characters
  few_marked =
      let counted-so = so.marked.counted (size_byte r) (family_byte r) (omega (arith, kept_to.size)) (omega (arith, kept_to.family)) in
      omega (arith, counted-so, tally_le (is_in (size_byte r) (family_byte r)) (drop i l), length-drop i l, so.within, recorded s, few s sound)

  -- by the key of the part that holds it
  module _ (k : Key) {q : List ℕ} (is : q ≡ numbered s (i - 1)) (of : KeyOf k q) where
    is_r : q ≡ r
    is_r = is ∙ sym (record_at s (i - 1) inside_count)

    size_is : k.size ≡ size_byte r
    size_is = of.size_is ∙ ap size_byte is_r

    family_is : k.family ≡ family_byte r
    family_is = of.family_is ∙ ap family_byte is_r

    code_is : k.code ≡ code_byte r
    code_is = of.code_is ∙ ap code_byte is_r

    pub mark_fits : (k.size ≤ greatest_size) × (k.family ≤ greatest_family) × (group_word new k.size k.family bit_words < most_characters)
    mark_fits = rw (size_is, family_is) (kept_to.size, kept_to.family, few_marked)

    pub marked_from : MarkedFrom old (marked_with new k.size k.family k.code) l (i - 1)
    marked_from =
        rw (size_is, family_is, code_is)
        (record {
          within = omega (arith, inside);
          marked = rw rest (marked_more new r (drop i l) kept_to (all_in_bytes s byte (i - 1)).code_byte_lem so.marked);
          past = past_more new r (drop i l) kept_to (all_in_bytes s byte (i - 1)).code_byte_lem so.marked ∙ so.past;
        })

-- a record is marked as the code does it, with its group's place and its bit computed before
module _ (words : List ℕ) (size family code : ℕ) where
  abbrev stored : ℕ → ℕ → List ℕ
  stored group mask =
      let bitten = set words (group + code / 64) (bit_or (get_or words (group + code / 64) 0) mask) in
      set bitten (group + 4) (get_or bitten (group + 4) 0 + 1)

  pub marked_so : (group : ℕ) → group ≡ group_words * (family_count * size + family) → stored group (1 * 2 ^ (code % 64) % 2 ^ 64) ≡ marked_with words size family code
  unfolding marked_with
  marked_so group e = ap₂ stored e (mask_is (code % 64) (omega arith))

  -- the count is not the word of the bit
  pub count_kept : (group mask : ℕ) → code < 256 → get_or (set words (group + code / 64) mask) (group + 4) 0 ≡ get_or words (group + 4) 0
  count_kept group mask h = get_or-set_other words (group + code / 64) (group + 4) mask 0 (λ (e : group + 4 ≡ group + code / 64). omega arith)

-- ---- the counts are summed

summed_none : (words : List ℕ) → Summed words words 0
summed_none words =
    record {
      same_length = refl;
      coded = λ g k h. refl;
      summed = λ g h. absurd (omega arith);
      left = λ g h. refl;
      past = refl;
    }

module _ (old new : List ℕ) (n : ℕ) (inside : n < group_count) (long : index_words ≤ length old) (so : Summed old new n) where
  abbrev last : ℕ
  last = group_words * n + bit_words

  abbrev next : List ℕ
  next = set new last (running old n)

  summed_more : Summed old next (n + 1)
  summed_more =
      record {
        same_length = length-set new last (running old n) ∙ so.same_length;
        coded = λ g k h. get_or-set_other new last (group_words * g + k) _ 0 (λ (e : group_words * g + k ≡ last). omega arith) ∙ so.coded g k h;
        summed = λ g h. summed_by g h (eqb g n) refl;
        left = λ g h. get_or-set_other new last (group_words * g + bit_words) _ 0 (λ (e : group_words * g + bit_words ≡ last). omega arith) ∙ so.left g (omega arith);
        past = drop-set-lt index_words new last _ (omega arith) ∙ so.past;
      }
    where
      summed_by : (g : ℕ) → g < n + 1 → (t : Bool) → eqb g n ≡ t → count_of next g ≡ running old g
      summed_by g h true is =
          let e : g ≡ n = eqb-true g n is in
          ap (λ (i : ℕ). get_or next (group_words * i + bit_words) 0) e ∙ get_or-set_same new last _ 0 (omega (arith, so.same_length)) ∙ ap (running old) (sym e)
      summed_by g h false is =
          let other = eqb-false g n is in
          get_or-set_other new last (group_words * g + bit_words) _ 0 (λ (e : group_words * g + bit_words ≡ last). other (omega arith))
          ∙ so.summed g (omega arith)

running_more : (words : List ℕ) (n : ℕ) → running words (suc n) ≡ running words n + count_of words n
unfolding running
running_more words n = refl

running_le : (words : List ℕ) (m n : ℕ) → m ≤ n → running words m ≤ running words n
running_le words m zero h = let e : m ≡ 0 = omega arith in omega (arith, ap (running words) e)
running_le words m (suc n) h = go (eqb m (suc n)) refl (running_le words m n)
  where
    go : (t : Bool) → eqb m (suc n) ≡ t → (m ≤ n → running words m ≤ running words n) → running words m ≤ running words (suc n)
    go true is rest = let e : m ≡ suc n = eqb-true m (suc n) is in omega (arith, ap (running words) e)
    go false is rest = let other = eqb-false m (suc n) is in let r = rest (omega arith) in omega (arith, running_more words n)

-- as the code goes: the sum so far, and how many are summed
pub record Summing (old new : List ℕ) (total n : ℕ) : Type 0 where
  pub so : Summed old new n
  pub total_is : total ≡ running old n
  pub within : n ≤ group_count

pub summing_none : (words : List ℕ) → Summing words words 0 0
unfolding running
summing_none words = record { so = summed_none words; total_is = refl; within = omega arith }

module _ (old new : List ℕ) (long : index_words ≤ length old) (total n : ℕ) (inside : n < group_count) (s : Summing old new total n) where
  total_next : total + count_of new n ≡ running old (n + 1)
  total_next =
      let e : n + 1 ≡ suc n = omega arith in
      omega (arith, s.total_is, s.so.left n (omega arith), running_more old n, ap (running old) e)

  pub summing_more : Summing old (set new (group_words * n + bit_words) total) (total + count_of new n) (n + 1)
  summing_more = record { so = rw s.total_is (summed_more old new n inside long s.so); total_is = total_next; within = omega arith }

  pub total_small : total + count_of new n ≤ running old group_count
  total_small = omega (arith, total_next, running_le old (n + 1) group_count (omega arith))

-- ---- the counts before a size and family are the records before it

module _ (r : List ℕ) (f : family_byte r ≤ greatest_family) (g : ℕ) where
  -- a size and family as one number, and those of the next group
  abbrev own : ℕ
  own = size_byte r * 256 + family_byte r

  abbrev this : ℕ
  this = g / 16 * 256 + g % 16

  abbrev then : ℕ
  then = suc g / 16 * 256 + suc g % 16

  earlier_is : (a b : ℕ) → b < 256 → earlier a b r ≡ ltb own (a * 256 + b)
  unfolding earlier
  earlier_is a b h = in_order (size_byte r) a (family_byte r) b (omega arith) h

  in_is : is_in (g / 16) (g % 16) r ≡ eqb own this
  unfolding is_in
  in_is = same_parts (size_byte r) (g / 16) (family_byte r) (g % 16) (omega arith) (omega arith)

  step : (a : Bool) → ltb own this ≡ a → (b : Bool) → eqb own this ≡ b → one (ltb own then) ≡ one a + one b
  step true less true is = let x = ltb-true own this less in let y : own ≡ this = eqb-true own this is in absurd (omega arith)
  step true less false is = let x = ltb-true own this less in ap one (lt-ltb own then (omega arith))
  step false more true is = let y : own ≡ this = eqb-true own this is in ap one (lt-ltb own then (omega arith))
  step false more false is = let x = ltb-false own this more in let y = eqb-false own this is in ap one (le-ltb own then (omega arith))

  group_next : one (earlier (suc g / 16) (suc g % 16) r) ≡ one (earlier (g / 16) (g % 16) r) + one (is_in (g / 16) (g % 16) r)
  group_next =
      ap one (earlier_is (suc g / 16) (suc g % 16) (omega arith))
      ∙ step (ltb own this) refl (eqb own this) refl
      ∙ sym (ap₂ (λ (a b : Bool). one a + one b) (earlier_is (g / 16) (g % 16) (omega arith)) in_is)

module _ (words : List ℕ) (l : List (List ℕ)) (all : (i : ℕ) → i < length l → Within (get_or l i [])) (m : Marked words l) where
  none_earlier : start_of l 0 0 ≡ 0
  unfolding earlier
  none_earlier = tally_none (earlier 0 0) l (λ i h. not_zero (size_byte (get_or l i [])) (family_byte (get_or l i [])))
    where
      not_zero : (a b : ℕ) → (ltb a 0 || (eqb a 0 && ltb b 0)) ≡ false
      not_zero a b = rw (le-ltb a 0 (omega arith), le-ltb b 0 (omega arith)) (and-false (eqb a 0))

  running_is : (g : ℕ) → g ≤ group_count → running words g ≡ start_of l (g / 16) (g % 16)
  unfolding running
  running_is zero h = sym none_earlier
  running_is (suc g) h =
      let here : count_of words g ≡ tally (is_in (g / 16) (g % 16)) l =
      ap (λ (i : ℕ). get_or words i 0) (omega arith) ∙ m.counted (g / 16) (g % 16) (omega arith) (omega arith) in
      let next =
      tally_sum (earlier (suc g / 16) (suc g % 16)) (earlier (g / 16) (g % 16)) (is_in (g / 16) (g % 16)) l
      (λ i k. group_next (get_or l i []) (all i k).family g) in
      ap₂ (λ (a b : ℕ). a + b) (running_is g (omega arith)) here ∙ sym next

  pub running_small : running words group_count ≤ length l
  running_small = let e = running_is group_count (omega arith) in let t = tally_le (earlier 3 0) l in omega arith

  -- ---- the index

  module _ (new : List ℕ) (so : Summed words new group_count) where
    right : (size family k : ℕ) → size < 3 → family < 16 → k < 5 → group_word new size family k ≡ get_or (group_of l size family) k 0
    right size family zero s f h = so.coded (family_count * size + family) 0 (omega arith) ∙ m.coded size family 0 s f (omega arith)
    right size family (suc zero) s f h = so.coded (family_count * size + family) 1 (omega arith) ∙ m.coded size family 1 s f (omega arith)
    right size family (suc (suc zero)) s f h = so.coded (family_count * size + family) 2 (omega arith) ∙ m.coded size family 2 s f (omega arith)
    right size family (suc (suc (suc zero))) s f h = so.coded (family_count * size + family) 3 (omega arith) ∙ m.coded size family 3 s f (omega arith)
    right size family (suc (suc (suc (suc zero)))) s f h =
        let g = family_count * size + family in
        let a : g / 16 ≡ size = omega arith in
        let b : g % 16 ≡ family = omega arith in
        so.summed g (omega arith) ∙ running_is g (omega arith) ∙ ap₂ (start_of l) a b
    right size family (suc (suc (suc (suc (suc k))))) s f h = absurd (omega arith)

    pub built : new ≡ index_of l ++ drop index_words words
    built =
        sym (take-append-drop index_words new)
        ∙ ap₂ (λ (a b : List ℕ). a ++ b) (index_front new l (omega (arith, so.same_length, m.long)) right) so.past
