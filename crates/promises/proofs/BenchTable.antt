-- The bytes of the bench table (document 01, "The bench table and what it gives"): the same parameters and the same six
-- characters at each of the three sizes. Of change request 6, two client's tables over it, of symbols of text size: one that hides the a
-- and the successor of the sum, and one in which that successor goes back to the sum. Of request 9, as few words as are enough.
-- Assumes nothing.
use Rattle.std.specs.Prelude.{List, [], ◌∷◌, ◌++◌, ℕ}
use Rattle.words.specs.Words.{four_bytes}
use Rattle.font_index.specs.Index.{index_words}
use Rattle.answers.specs.Lent.{Lent, lends}

words_bytes : List ℕ → List ℕ
words_bytes [] = []
words_bytes (w ∷ l) = four_bytes w ++ words_bytes l

sigmas : List ℕ
sigmas =
    0 ∷ 0 ∷ 0 ∷ 0 ∷ 430 ∷ 1000 ∷ 0 ∷ 700 ∷ 400 ∷ 450 ∷ 690 ∷ 350 ∷ 420 ∷ 370 ∷ 290 ∷ 150 ∷ 250 ∷ 380 ∷ 50 ∷ 0 ∷ 0 ∷ 250
    ∷ []

xis : List ℕ
xis = 0 ∷ 0 ∷ 0 ∷ 0 ∷ 0 ∷ 0 ∷ 0 ∷ 40 ∷ 110 ∷ 170 ∷ 200 ∷ 600 ∷ 100 ∷ []

-- P, A
parameters : List ℕ
parameters = 80 ∷ 65 ∷ words_bytes (sigmas ++ xis)

-- C, H; family, code, successor flag, successor code, and then width, height, depth, italic correction
character : ℕ → ℕ → ℕ → ℕ → ℕ → List ℕ → List ℕ
character size family code flag successor metrics =
    67 ∷ 72 ∷ size ∷ family ∷ code ∷ flag ∷ successor ∷ words_bytes metrics

characters : ℕ → List ℕ
characters size =
    character size 1 97 0 0 (500 ∷ 430 ∷ 0 ∷ 0 ∷ [])
    ++ character size 1 102 0 0 (490 ∷ 700 ∷ 200 ∷ 110 ∷ [])
    ++ character size 2 43 0 0 (780 ∷ 580 ∷ 80 ∷ 0 ∷ [])
    ++ character size 2 61 0 0 (780 ∷ 370 ∷ 0 ∷ 0 ∷ [])
    ++ character size 3 80 1 88 (1000 ∷ 0 ∷ 1000 ∷ 0 ∷ [])
    ++ character size 3 88 0 0 (1400 ∷ 0 ∷ 1400 ∷ 0 ∷ [])

unfoldable pub bench_table : List ℕ
unfolding words_bytes four_bytes sigmas xis parameters character characters
bench_table = parameters ++ parameters ++ parameters ++ characters 0 ++ characters 1 ++ characters 2

unfoldable pub client_table : List ℕ
unfolding words_bytes four_bytes character
client_table = character 0 1 97 0 0 (600 ∷ 450 ∷ 0 ∷ 0 ∷ []) ++ character 0 3 88 0 0 (1500 ∷ 0 ∷ 1600 ∷ 0 ∷ [])

unfoldable pub turning_table : List ℕ
unfolding words_bytes four_bytes character
turning_table = character 0 3 88 1 80 (1500 ∷ 0 ∷ 1600 ∷ 0 ∷ [])

abbrev pub just_enough : Lent
just_enough = lends index_words index_words
