-- Records one after the other.
--     in_pieces                   the pieces that a list has: none in a short one, or its front and those of the rest
--     length_pieces, piece_at     how many pieces there are, and a piece by its number
--     in_bytes                    the records in bytes hold bytes
--     Within, good_within, all_within     a record that keeps the rules is of a size and a family that there are, and no word of it is too great
--     recorded, record_at, all_in_bytes     CH records: how many, where each stands, and that they hold bytes
--     byte_at                     a byte of a record, by where it stands
--     counted, few                sound records fill their bytes, and are not too many
-- Assumes nothing.
use Rattle.std.specs.Prelude.{◌≡◌, refl, List, [], ◌∷◌, ◌++◌, true, ◌&&◌, ◌||◌, ℕ, zero, suc, ◌+◌, ◌-◌, ◌*◌, ◌/◌, ◌<◌, ◌≤◌, leb, eqb, length, get_or, take, drop}
use Rattle.std.proofs.Common.{ap, ◌∙◌, add_comm, mul-zero, mul-suc, arith, leb-true, drop-drop, get_or-take, get_or-drop}
use Rattle.std.proofs.Common.{ap₂, mul_comm, take-take, length-append, length-take-le}
use Rattle.std.proofs.lemmas.List.{drop-take}
use Rattle.std.proofs.Math.Nat.{div-eq_of_lt, add-div_left, mul-div_cancel}
use Rattle.std.proofs.Math.Seq.{take-append_seam, drop-append_seam}
use Rattle.laws.specs.Truths.{both_true}
use Rattle.words.specs.WordLaws.{Bytes}
use Rattle.font.specs.Records.{character_bytes, most_characters, greatest_size, greatest_family, pieces, client_records, client_count}
use Rattle.font.specs.Records.{size_byte, family_byte, flag_byte, successor_byte, marked, metric_words, every, good_word, good_character}
use Rattle.font.specs.Table.{SoundRecords}
use Rattle.font.specs.Keys.{AllInBytes}

-- ---- pieces

pub length_pieces : (k n : ℕ) (s : List ℕ) → length (pieces k n s) ≡ n
unfolding pieces
length_pieces k zero s = refl
length_pieces k (suc n) s = ap suc (length_pieces k n (drop k s))

-- a piece by its number
pub piece_at : (k n : ℕ) (t : List ℕ) (i : ℕ) → i < n → get_or (pieces k n t) i [] ≡ take k (drop (k * i) t)
unfolding pieces
piece_at k zero t i h = absurd (omega arith)
piece_at k (suc n) t zero h = rw mul-zero
piece_at k (suc n) t (suc i) h = piece_at k n (drop k t) i (omega arith) ∙ rw (drop-drop, mul-suc, add_comm k (k * i))

-- the pieces of k bytes that a list has
abbrev pub in_pieces : ℕ → List ℕ → List (List ℕ)
in_pieces k t = pieces k (length t / k) t

-- the front of a list has the pieces that end in it
pub pieces_front : (k n m : ℕ) (t : List ℕ) → k * n ≤ m → pieces k n (take m t) ≡ pieces k n t
unfolding pieces
pieces_front k zero m t h = refl
pieces_front k (suc n) m t h =
    ap₂ (λ (first : List ℕ) (l : List (List ℕ)). first ∷ l) (take-take k m t (omega arith))
    (let rest : k + (m - k) ≡ m = omega arith in
    let behind : drop k (take m t) ≡ take (m - k) (drop k t) = rw rest at (drop-take k (m - k) t) in
    rw behind (pieces_front k n (m - k) (drop k t) (omega arith)))

pub none_in_pieces : (k : ℕ) (t : List ℕ) → length t < k → in_pieces k t ≡ []
unfolding pieces
none_in_pieces k t h = rw (div-eq_of_lt h)

pub first_in_pieces : (k : ℕ) {t : List ℕ} (r u : List ℕ) → 0 < k → t ≡ r ++ u → length r ≡ k → in_pieces k t ≡ r ∷ in_pieces k u
unfolding pieces
first_in_pieces k r u more e size =
    let more_length : 0 < length r = omega arith in
    let one_more : length (r ++ u) / length r ≡ suc (length u / length r) =
    rw (length-append, add-div_left (length u) more_length) (omega arith) in
    rw (e, ← size, one_more) (ap₂ (λ (first : List ℕ) (l : List (List ℕ)). first ∷ l) (take-append_seam r u) (rw (drop-append_seam r u)))

pub front_in_pieces : (k n : ℕ) (t : List ℕ) → 0 < k → n * k ≤ length t → in_pieces k (take (n * k) t) ≡ pieces k n t
front_in_pieces k n t more long =
    let size = length-take-le (n * k) t long in
    let number : length (take (n * k) t) / k ≡ n = rw (size, mul-div_cancel n more) in
    rw number (pieces_front k n (n * k) t (omega (arith, mul_comm k n)))

-- a byte of a piece is one of the whole, or 0 where there is none
piece_byte : (k n : ℕ) (t : List ℕ) → ((i : ℕ) → get_or t i 0 < 256) → (i j : ℕ) → get_or (get_or (pieces k n t) i []) j 0 < 256
unfolding pieces
piece_byte k zero t byte i j = omega arith
piece_byte k (suc n) t byte zero j = front_byte k t byte j
  where
    front_byte : (k : ℕ) (t : List ℕ) → ((i : ℕ) → get_or t i 0 < 256) → (j : ℕ) → get_or (take k t) j 0 < 256
    front_byte zero t byte j = omega arith
    front_byte (suc k) [] byte j = omega arith
    front_byte (suc k) (a ∷ t) byte zero = byte 0
    front_byte (suc k) (a ∷ t) byte (suc j) = front_byte k t (λ i. byte (suc i)) j
piece_byte k (suc n) t byte (suc i) j = piece_byte k n (drop k t) (λ i. rw get_or-drop (byte (k + i))) i j

pub in_bytes : (k n : ℕ) (t : List ℕ) → Bytes t → AllInBytes (pieces k n t)
in_bytes k n t byte i =
    let each : (j : ℕ) → get_or (get_or (pieces k n t) i []) j 0 < 256 = piece_byte k n t (λ (i : ℕ). omega (arith, byte i)) i in
    record { family_byte_lem = each 3; code_byte_lem = each 4 }

-- ---- what every record keeps to

pub record Within (r : List ℕ) : Type 0 where
  pub size : size_byte r ≤ greatest_size
  pub family : family_byte r ≤ greatest_family
  pub words : every good_word (metric_words r) ≡ true

pub good_within : (r : List ℕ) → good_character r ≡ true → Within r
unfolding good_character
good_within r good =
    let first = marked 67 72 r in
    let second = first && leb (size_byte r) greatest_size in
    let third = second && leb (family_byte r) greatest_family in
    let fourth = third && leb (flag_byte r) 1 in
    let all = both_true {p = fourth && (eqb (flag_byte r) 1 || eqb (successor_byte r) 0)} good in
    let three = both_true {p = third} (both_true {p = fourth} all.0).0 in
    let two = both_true {p = second} three.0 in
    record { size = leb-true _ _ (both_true {p = first} two.0).1; family = leb-true _ _ two.1; words = all.1 }

pub all_within : (l : List (List ℕ)) → every good_character l ≡ true → (i : ℕ) → i < length l → Within (get_or l i [])
unfolding every
all_within [] good i h = absurd (omega arith)
all_within (r ∷ l) good zero h = good_within r (both_true {p = good_character r} good).0
all_within (r ∷ l) good (suc i) h = all_within l (both_true {p = good_character r} good).1 i (omega arith)

-- ---- CH records by number

abbrev pub numbered : List ℕ → ℕ → List ℕ
numbered s m = take character_bytes (drop (character_bytes * m) s)

module _ (s : List ℕ) where
  -- how many there are, as the code counts them
  abbrev pub count : ℕ
  count = length s / character_bytes

  pub recorded : length (client_records s) ≡ count
  unfolding client_records client_count
  recorded = length_pieces character_bytes count s

  pub record_at : (m : ℕ) → m < count → get_or (client_records s) m [] ≡ numbered s m
  unfolding client_records client_count
  record_at m h = piece_at character_bytes count s m h

  pub all_in_bytes : Bytes s → AllInBytes (client_records s)
  unfolding client_records client_count
  all_in_bytes byte = in_bytes character_bytes count s byte

  pub byte_at : (at k : ℕ) → k < character_bytes → get_or (take character_bytes (drop at s)) k 0 ≡ get_or s (at + k) 0
  byte_at at k h = get_or-take character_bytes (drop at s) k 0 h ∙ get_or-drop at s k 0

module _ (s : List ℕ) (sound : SoundRecords s) where
  pub counted : length s ≡ character_bytes * count s
  unfolding client_count
  counted = sound.whole

  pub few : count s ≤ most_characters
  unfolding client_count
  few = sound.few
