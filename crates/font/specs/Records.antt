-- The bytes of the font table (document 01, "Bytes of the font table").
--     parameter_records t    the three PA records of a table t
--     character_records t    its CH records
--     good_records t         whether t breaks no rule of document 01
--     client_records c, good_client_records c     the same of a client's table c, which has CH records alone (request 6)
-- A table is read from its front, a record at a time.
-- Assumes nothing.
use Rattle.std.specs.Prelude.{Bool, true, ◌&&◌, ◌||◌, List, [], ◌∷◌, ℕ, zero, suc, ◌+◌, ◌-◌, ◌*◌, ◌/◌, ltb, leb, eqb, length, get_or, take, drop}
use Rattle.words.specs.Words.{little_endian}

-- ---- the numbers of the format

-- σ1 to σ22, then ξ1 to ξ13
abbrev pub parameter_count : ℕ
parameter_count = 35

abbrev pub size_count : ℕ
size_count = 3

abbrev pub word_bytes : ℕ
word_bytes = 4

abbrev pub mark_bytes : ℕ
mark_bytes = 2

abbrev pub parameter_bytes : ℕ
parameter_bytes = mark_bytes + word_bytes * parameter_count

abbrev pub header_bytes : ℕ
header_bytes = size_count * parameter_bytes

abbrev pub character_bytes : ℕ
character_bytes = 23

abbrev pub most_characters : ℕ
most_characters = 2_048

-- in a client's table
abbrev pub most_client_characters : ℕ
most_client_characters = 512

abbrev pub greatest_word : ℕ
greatest_word = 8_388_607

abbrev pub greatest_size : ℕ
greatest_size = 2

abbrev pub greatest_family : ℕ
greatest_family = 15

-- ---- records, as parts of the table

-- n pieces of k bytes each, from the front of t
unfoldable pub pieces : ℕ → ℕ → List ℕ → List (List ℕ)
pieces k zero t = []
pieces k (suc n) t = take k t ∷ pieces k n (drop k t)

unfoldable pub character_count : List ℕ → ℕ
character_count t = (length t - header_bytes) / character_bytes

unfoldable pub parameter_records : List ℕ → List (List ℕ)
parameter_records t = pieces parameter_bytes size_count t

unfoldable pub character_records : List ℕ → List (List ℕ)
character_records t = pieces character_bytes (character_count t) (drop header_bytes t)

-- those of a client's table start with its first byte
unfoldable pub client_count : List ℕ → ℕ
client_count c = length c / character_bytes

unfoldable pub client_records : List ℕ → List (List ℕ)
client_records c = pieces character_bytes (client_count c) c

-- n four-byte words, from the front of t
unfoldable pub words : ℕ → List ℕ → List ℕ
words zero t = []
words (suc n) t = little_endian word_bytes t ∷ words n (drop word_bytes t)

-- a record opens with the mark of the two letters a and b
unfoldable pub marked : ℕ → ℕ → List ℕ → Bool
marked a b r = eqb (get_or r 0 0) a && eqb (get_or r 1 0) b

-- ---- a PA record: mark and thirty-five words

unfoldable pub parameter_words : List ℕ → List ℕ
parameter_words r = words parameter_count (drop mark_bytes r)

-- ---- a CH record: mark, size, family, code, successor flag, successor code, then four words

abbrev pub size_byte : List ℕ → ℕ
size_byte r = get_or r 2 0

abbrev pub family_byte : List ℕ → ℕ
family_byte r = get_or r 3 0

abbrev pub code_byte : List ℕ → ℕ
code_byte r = get_or r 4 0

abbrev pub flag_byte : List ℕ → ℕ
flag_byte r = get_or r 5 0

abbrev pub successor_byte : List ℕ → ℕ
successor_byte r = get_or r 6 0

-- width, height, depth, italic correction
unfoldable pub metric_words : List ℕ → List ℕ
metric_words r = words 4 (drop 7 r)

-- ---- the rules

unfoldable pub every : {A : Type 0} → (A → Bool) → List A → Bool
every good [] = true
every good (a ∷ l) = good a && every good l

abbrev pub good_word : ℕ → Bool
good_word w = leb w greatest_word

-- P, A
unfoldable pub good_parameters : List ℕ → Bool
good_parameters r = marked 80 65 r && every good_word (parameter_words r)

-- C, H; without the flag the successor code is 0
unfoldable pub good_character : List ℕ → Bool
good_character r =
    marked 67 72 r
    && leb (size_byte r) greatest_size
    && leb (family_byte r) greatest_family
    && leb (flag_byte r) 1
    && (eqb (flag_byte r) 1 || eqb (successor_byte r) 0)
    && every good_word (metric_words r)

-- r stands before q: by size, then family, then code
unfoldable pub before : List ℕ → List ℕ → Bool
before r q =
    ltb (size_byte r) (size_byte q)
    || (eqb (size_byte r) (size_byte q)
    && (ltb (family_byte r) (family_byte q)
    || (eqb (family_byte r) (family_byte q) && ltb (code_byte r) (code_byte q))))

unfoldable pub rising : List (List ℕ) → Bool
rising [] = true
rising (r ∷ []) = true
rising (r ∷ q ∷ l) = before r q && rising (q ∷ l)

unfoldable pub good_length : List ℕ → Bool
good_length t = eqb (length t) (header_bytes + character_bytes * character_count t) && leb (character_count t) most_characters

unfoldable pub good_records : List ℕ → Bool
good_records t =
    good_length t
    && every good_parameters (parameter_records t)
    && every good_character (character_records t)
    && rising (character_records t)

unfoldable pub good_client_length : List ℕ → Bool
good_client_length c = eqb (length c) (character_bytes * client_count c) && leb (client_count c) most_client_characters

-- an empty one is good
unfoldable pub good_client_records : List ℕ → Bool
good_client_records c = good_client_length c && every good_character (client_records c) && rising (client_records c)
