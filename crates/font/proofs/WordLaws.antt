-- The parameters of a table's font, by where its words stand.
--     parameter_word    a parameter, by where its word stands in the table: a turn of `row`
--     number_beyond, size_beyond    beyond the last number and the last size it is 0
-- Assumes nothing.
use mathlib.Core.Path.{◌≡◌, refl, ap, ◌∙◌}
use mathlib.Core.List.{List, [], ◌∷◌, map}
use Prim.Native.Nat.{ℕ, zero, suc, ◌+◌, ◌*◌, ◌<◌, ◌≤◌}
use native.Mathlib.Omega.{arith}
use lib.ListN.{length, get_or, take, drop, length-map, get_or-eq_default}
use lib.Seq.{drop-drop}
use Rattle.words.specs.Words.{little_endian}
use Rattle.words.specs.WordLaws.{word_take}
use Rattle.font.specs.Records.{word_bytes, mark_bytes, parameter_bytes, parameter_count, size_count, pieces, words, parameter_records, parameter_words}
use Rattle.font.specs.Font.{font_of}
use Rattle.font.specs.RecordsLaws.{length_pieces, piece_at}

-- ---- the parameters of a table's font

get_d_words : (n : ℕ) (s : List ℕ) (j : ℕ) → j < n → get_or (words n s) j 0 ≡ little_endian word_bytes (drop (word_bytes * j) s)
unfolding words
get_d_words zero s j h = absurd (omega arith)
get_d_words (suc n) s zero h = refl
get_d_words (suc n) s (suc j) h = get_d_words n (drop word_bytes s) j (omega arith) ∙ (let e : word_bytes + word_bytes * j ≡ word_bytes * suc j = omega arith in rw (drop-drop, e))

get_d_map : {B : Type 0} (f : List ℕ → B) (d : B) (l : List (List ℕ)) (i : ℕ) → i < length l → get_or (map f l) i d ≡ f (get_or l i [])
get_d_map f d [] i h = absurd (omega arith)
get_d_map f d (r ∷ l) zero h = refl
get_d_map f d (r ∷ l) (suc i) h = get_d_map f d l i (omega arith)

pub parameter_word : (t : List ℕ) (size number : ℕ) → size < size_count → number < parameter_count → (font_of t).parameter size number ≡ little_endian word_bytes (drop (parameter_bytes * size + mark_bytes + word_bytes * number) t)
unfolding font_of parameter_records parameter_words
parameter_word t size number hs hn =
    let start = parameter_bytes * size in
    let b = mark_bytes + word_bytes * number in
    let rows = pieces parameter_bytes size_count t in
    let inside : size < length rows = omega (arith, length_pieces parameter_bytes size_count t) in
    let row = get_d_map parameter_words [] rows size inside ∙ ap parameter_words (piece_at parameter_bytes size_count t size hs) in
    let word = get_d_words parameter_count (drop mark_bytes (take parameter_bytes (drop start t))) number hn in
    let within = word_take parameter_bytes b (drop start t) (omega arith) in
    let place : start + b ≡ start + mark_bytes + word_bytes * number = omega arith in
    ap (λ (l : List ℕ). get_or l number 0) row ∙ word ∙ rw (drop-drop, within, drop-drop, place)

-- ---- beyond the last number and the last size a parameter is 0

length_words : (n : ℕ) (s : List ℕ) → length (words n s) ≡ n
unfolding words
length_words zero s = refl
length_words (suc n) s = ap suc (length_words n (drop word_bytes s))

row_short : (l : List (List ℕ)) (size : ℕ) → length (get_or (map parameter_words l) size []) ≤ parameter_count
unfolding parameter_words
row_short [] size = omega arith
row_short (r ∷ l) zero = omega (arith, length_words parameter_count (drop mark_bytes r))
row_short (r ∷ l) (suc size) = row_short l size

pub number_beyond : (t : List ℕ) (size number : ℕ) → parameter_count ≤ number → (font_of t).parameter size number ≡ 0
unfolding font_of
number_beyond t size number h =
    get_or-eq_default (get_or (map parameter_words (parameter_records t)) size []) 0 (omega (arith, row_short (parameter_records t) size))

pub size_beyond : (t : List ℕ) (size number : ℕ) → size_count ≤ size → (font_of t).parameter size number ≡ 0
unfolding font_of parameter_records
size_beyond t size number h =
    let rows = map parameter_words (pieces parameter_bytes size_count t) in
    let count : length rows ≡ size_count = length-map (pieces parameter_bytes size_count t) parameter_words ∙ length_pieces parameter_bytes size_count t in
    ap (λ (row : List ℕ). get_or row number 0) (get_or-eq_default rows [] {n = size} (omega arith))
