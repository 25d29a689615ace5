-- What the steps of building an index leave.
--     with_bit, with_count     a record is marked: the bit of its code is set, and it is counted in the place of its family's start
--     Marked      words with the bits of some records, and where a start belongs, how many records the size and family have
--     Summed      each of these counts made the sum of those before it
-- Assumes nothing.
use Rattle.std.specs.Prelude.{◌≡◌, Bool, ◌&&◌, List, ℕ, zero, suc, ◌+◌, ◌*◌, ◌/◌, ◌%◌, ◌^◌, ◌<◌, ◌≤◌, eqb, length, get_or, drop, set}
use Rattle.std.specs.Int.Bits.{bit_or}
use Rattle.font.specs.Records.{size_count, size_byte, family_byte}
use Rattle.font_index.specs.Index.{family_count, codes_in_word, bit_words, group_words, index_words, tally, code_word, group_word}

-- ---- a record is marked

module _ (words : List ℕ) (size family : ℕ) where
  -- the place of the k-th word of a size and family
  abbrev pub word_place : ℕ → ℕ
  word_place k = group_words * (family_count * size + family) + k

  abbrev pub with_bit : ℕ → List ℕ
  with_bit code = set words (word_place (code / codes_in_word)) (bit_or (group_word words size family (code / codes_in_word)) (2 ^ (code % codes_in_word)))

  abbrev pub with_count : List ℕ
  with_count = set words (word_place bit_words) (group_word words size family bit_words + 1)

unfoldable pub marked_with : List ℕ → ℕ → ℕ → ℕ → List ℕ
marked_with words size family code = with_count (with_bit words size family code) size family

-- ---- all are marked

unfoldable pub is_in : ℕ → ℕ → List ℕ → Bool
is_in size family r = eqb (size_byte r) size && eqb (family_byte r) family

pub record Marked (words : List ℕ) (l : List (List ℕ)) : Type 0 where
  pub long : index_words ≤ length words
  pub coded : (size family k : ℕ) → size < size_count → family < family_count → k < bit_words → group_word words size family k ≡ code_word l size family k
  pub counted : (size family : ℕ) → size < size_count → family < family_count → group_word words size family bit_words ≡ tally (is_in size family) l

-- ---- the counts are summed

-- of sizes and families, numbered one after the other
abbrev pub group_count : ℕ
group_count = size_count * family_count

abbrev pub count_of : List ℕ → ℕ → ℕ
count_of words g = get_or words (group_words * g + bit_words) 0

-- the sum of the first counts
unfoldable pub running : List ℕ → ℕ → ℕ
running words zero = 0
running words (suc g) = running words g + count_of words g

-- the first n are summed
pub record Summed (old new : List ℕ) (n : ℕ) : Type 0 where
  pub same_length : length new ≡ length old
  pub coded : (g k : ℕ) → k < bit_words → get_or new (group_words * g + k) 0 ≡ get_or old (group_words * g + k) 0
  pub summed : (g : ℕ) → g < n → count_of new g ≡ running old g
  pub left : (g : ℕ) → n ≤ g → count_of new g ≡ count_of old g
  pub past : drop index_words new ≡ drop index_words old
