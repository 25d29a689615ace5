-- The index of CH records (request 9): for each size, then family, four words with a bit for each code, and a start.
--     index_of l            the 240 words of the records l
--     Indexes words l      words that start with them
--     Indexed t c i j      two tables as a lookup takes them, each with its index
--     Held t c i j p        these and the parameters, as a font has them
--     present_by, number_by  what an index says of a symbol: whether it has a record, and how many records stand before that
-- Assumes nothing.
use Rattle.std.specs.Prelude.{◌≡◌, Bool, true, false, ◌&&◌, ◌||◌, List, [], ◌∷◌, ◌++◌, ℕ, zero, suc, ◌+◌, ◌*◌, ◌/◌, ◌%◌, ◌^◌, ltb, leb, eqb, get_or, take}
use Rattle.std.specs.Int.Count.{ones}
use Rattle.font.specs.Records.{size_count, greatest_size, greatest_family, character_records, client_records, size_byte, family_byte}
use Rattle.font.specs.Font.{font_with, is_of}
use Rattle.font.specs.Values.{parameters_in}
use Rattle.font.specs.Table.{SoundTables}

-- ---- the numbers of the format

abbrev pub family_count : ℕ
family_count = 16

-- a bit for each
abbrev pub codes_in_word : ℕ
codes_in_word = 64

-- of a size and family: words of bits, and with the start behind them
abbrev pub bit_words : ℕ
bit_words = 4

abbrev pub group_words : ℕ
group_words = 5

abbrev pub index_words : ℕ
index_words = size_count * (family_count * group_words)

-- ---- the words

abbrev pub one : Bool → ℕ
one true = 1
one false = 0

-- whether one of the records is the symbol's
unfoldable pub has : ℕ → ℕ → List (List ℕ) → ℕ → Bool
has size family [] code = false
has size family (r ∷ l) code = is_of size family code r || has size family l code

-- the bits of n codes, that of the first code lowest
unfoldable pub bits : (ℕ → Bool) → ℕ → ℕ → ℕ
bits present first zero = 0
bits present first (suc n) = one (present first) + 2 * bits present (suc first) n

-- how many records pass a test
unfoldable pub tally : (List ℕ → Bool) → List (List ℕ) → ℕ
tally test [] = 0
tally test (r ∷ l) = one (test r) + tally test l

-- r stands before the records of a size and family
unfoldable pub earlier : ℕ → ℕ → List ℕ → Bool
earlier size family r = ltb (size_byte r) size || (eqb (size_byte r) size && ltb (family_byte r) family)

module _ (l : List (List ℕ)) (size family : ℕ) where
  -- the k-th word of bits
  abbrev pub code_word : ℕ → ℕ
  code_word k = bits (has size family l) (codes_in_word * k) codes_in_word

  abbrev pub start_of : ℕ
  start_of = tally (earlier size family) l

  abbrev pub group_of : List ℕ
  group_of = code_word 0 ∷ code_word 1 ∷ code_word 2 ∷ code_word 3 ∷ start_of ∷ []

-- what f gives for each number below n, one after the other
unfoldable pub each : ℕ → (ℕ → List ℕ) → List ℕ
each zero f = []
each (suc n) f = each n f ++ f n

unfoldable pub index_of : List (List ℕ) → List ℕ
index_of l = each size_count (λ size. each family_count (λ family. group_of l size family))

-- words past the index are of no matter
pub record Indexes (words : List ℕ) (l : List (List ℕ)) : Type 0 where
  pub front : take index_words words ≡ index_of l

pub record Indexed (t c i j : List ℕ) : Type 0 where
  pub tables : SoundTables t c
  pub ours : Indexes i (character_records t)
  pub client : Indexes j (client_records c)

-- what a font has: two tables, each with its index, and the parameters of ours
pub record Held (t c i j : List ℕ) (p : List (List ℕ)) : Type 0 where
  pub indexed : Indexed t c i j
  pub parameters_are : parameters_in p ≡ (font_with t c).parameter

-- ---- what an index says

-- the ones of a word below a bit
abbrev pub ones_below : ℕ → ℕ → ℕ
ones_below w b = ones (w % 2 ^ b)

module _ (words : List ℕ) (size family : ℕ) where
  -- the k-th of the five words of a size and family
  abbrev pub group_word : ℕ → ℕ
  group_word k = get_or words (group_words * (family_count * size + family) + k) 0

  -- the ones of the first k words of bits
  unfoldable pub ones_before : ℕ → ℕ
  ones_before zero = 0
  ones_before (suc k) = ones_before k + ones (group_word k)

  -- a size or family that no table has is in no index
  unfoldable pub present_by : ℕ → Bool
  present_by code =
      leb size greatest_size && leb family greatest_family
      && eqb (group_word (code / codes_in_word) / 2 ^ (code % codes_in_word) % 2) 1

  -- the start and the ones below the symbol's bit, in its word and those before it
  unfoldable pub number_by : ℕ → ℕ
  number_by code =
      group_word bit_words + ones_before (code / codes_in_word) + ones_below (group_word (code / codes_in_word)) (code % codes_in_word)
