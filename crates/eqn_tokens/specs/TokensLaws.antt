-- Laws of the tokens of a text.
--     keyword_bytes_lem, keyword_none      the bytes of the token that a word is are the word; one that is no keyword is a word
--     run_most, run_none, run_passes, run_stops, run_append, run_ends      how many bytes the word at the front has
--     run_is      the word at a place, by its last byte and the one behind it
--     is_apart, apart_ends, apart_begins, ends_append     no word of a text goes on in the text behind it
--     tokens_skip, place_skip          the tokens behind some bytes, and their places
--     tokens_separator, tokens_word, tokens_mark     the tokens of a text, by its first byte
--     place_separator, place_front, place_word, place_mark     the same for their places
--     tokens_append, places_append     the tokens of two texts, one behind the other, that share no word, and where those of the second begin
--     Begins, word_at, mark_at, begins_at     the token that a text begins with, and how many bytes it has
-- The idea: a law for each kind of first byte, from which the others follow without the definitions.
-- Assumes nothing.
use Rattle.std.specs.Prelude.{◌≡◌, refl, Bool, true, false, not, ◌&&◌, List, [], ◌∷◌, ◌++◌, ℕ, zero, suc, ◌+◌, ◌-◌, ◌<◌, ◌≤◌, ltb, length, take, drop, get_or}
use Rattle.std.proofs.Common.{sym, ap, ◌∙◌, zero-add, add-one, arith, length-append, ltb-true, ltb-false, drop_of_length-le}
use Rattle.std.proofs.Math.Bool.{and-false}
use Rattle.std.proofs.lemmas.Bool.{not-true}
use Rattle.std.proofs.lemmas.List.{take-append-le}
use Rattle.laws.specs.Truths.{by_test}
use Rattle.eqn_tokens.specs.Bytes.{is_separator, is_word_byte, same}
use Rattle.eqn_tokens.specs.BytesLaws.{here, same_is, word_no_separator}
use Rattle.eqn_tokens.specs.Tokens.{Token, word, sub_bytes, sup_bytes, over_bytes, from_bytes, to_bytes, keyword_of, token_bytes, run_length, mark_of, tokens_from, tokens_in, place_from, place_in}

-- ---- keywords

pub keyword_none : (w : List ℕ) → same w sub_bytes ≡ false → same w sup_bytes ≡ false → same w over_bytes ≡ false → same w from_bytes ≡ false →
    same w to_bytes ≡ false → keyword_of w ≡ word w
unfolding keyword_of
keyword_none w a b c d e = rw (a, b, c, d, e)

pub keyword_bytes_lem : (w : List ℕ) → token_bytes (keyword_of w) ≡ w
unfolding keyword_of token_bytes same
keyword_bytes_lem w =
    by_test (same w sub_bytes) (own sub_bytes refl)
    (λ a.
    by_test (same w sup_bytes) (own sup_bytes refl)
    (λ b.
    by_test (same w over_bytes) (own over_bytes refl)
    (λ c.
    by_test (same w from_bytes) (own from_bytes refl)
    (λ d. by_test (same w to_bytes) (own to_bytes refl) (λ e. ap token_bytes (keyword_none w a b c d e))))))
  where
    own : (b : List ℕ) → token_bytes (keyword_of b) ≡ b → same w b ≡ true → token_bytes (keyword_of w) ≡ w
    own b e t = let is = same_is w b t in rw is e

-- ---- the word at the front

pub run_most : (s : List ℕ) → run_length s ≤ length s
unfolding run_length
run_most [] = omega arith
run_most (b ∷ s) = by_test (is_word_byte b) (λ e. rw e (omega (arith, run_most s))) (λ e. rw e (omega arith))

-- whether a text begins with a word, and whether it ends with one
abbrev pub begins_word : List ℕ → Bool
begins_word [] = false
begins_word (b ∷ s) = is_word_byte b

unfoldable pub ends_word : List ℕ → Bool
ends_word [] = false
ends_word (b ∷ []) = is_word_byte b
ends_word (b ∷ c ∷ s) = ends_word (c ∷ s)

pub run_none : (s : List ℕ) → begins_word s ≡ false → run_length s ≡ 0
unfolding run_length
run_none [] e = refl
run_none (b ∷ s) e = rw e

-- the word at a place, for a loop over its bytes
pub run_passes : (s : List ℕ) (i : ℕ) → i < length s → is_word_byte (get_or s i 0) ≡ true → run_length (drop i s) ≡ suc (run_length (drop (i + 1) s))
unfolding run_length
run_passes s i l e = rw (here s i l, e)

pub run_stops : (s : List ℕ) (i : ℕ) → i < length s → is_word_byte (get_or s i 0) ≡ false → run_length (drop i s) ≡ 0
unfolding run_length
run_stops s i l e = rw (here s i l, e)

-- the bytes before r are of a word, and the one there is not
module _ (s : List ℕ) (r : ℕ) (within : r ≤ length s) (stops : r < length s → is_word_byte (get_or s r 0) ≡ false) where
  run_from : (n i : ℕ) → i + n ≡ r → ((k : ℕ) → i ≤ k → k < r → is_word_byte (get_or s k 0) ≡ true) → run_length (drop i s) ≡ n
  run_from zero i e all =
      by_test (ltb r (length s))
      (λ t. let is : i ≡ r = omega arith in let l = ltb-true r (length s) t in rw is (run_stops s r l (stops l)))
      (λ t. run_none (drop i s) (ap begins_word (drop_of_length-le s {i = i} (omega (arith, ltb-false r (length s) t)))))
  run_from (suc n) i e all =
      run_passes s i (omega arith) (all i (omega arith) (omega arith)) ∙ ap suc (run_from n (i + 1) (omega arith) (λ k l m. all k (omega arith) m))

  pub run_is : (at : ℕ) → at ≤ r → ((k : ℕ) → at ≤ k → k < r → is_word_byte (get_or s k 0) ≡ true) → r ≡ at + run_length (drop at s)
  run_is at l all = omega (arith, run_from (r - at) at (omega arith) all)

-- no word of the first text goes on in the second
abbrev pub is_apart : List ℕ → List ℕ → Bool
is_apart a b = not (ends_word a && begins_word b)

pub apart_ends : (a b : List ℕ) → ends_word a ≡ false → is_apart a b ≡ true
apart_ends a b e = rw e

pub apart_begins : (a b : List ℕ) → begins_word b ≡ false → is_apart a b ≡ true
apart_begins a b e = rw (e, and-false (ends_word a))

pub ends_append : (a b : List ℕ) → 1 ≤ length b → ends_word (a ++ b) ≡ ends_word b
unfolding ends_word
ends_append [] b l = refl
ends_append (c ∷ []) [] l = absurd (omega arith)
ends_append (c ∷ []) (d ∷ b) l = refl
ends_append (c ∷ d ∷ a) b l = ends_append (d ∷ a) b l

-- behind a byte of a word
pub run_append : (c : ℕ) (a b : List ℕ) → is_word_byte c ≡ true → is_apart (c ∷ a) b ≡ true → run_length (a ++ b) ≡ run_length a
unfolding run_length ends_word
run_append c [] b w e = run_none b (not-true (begins_word b) (rw w at e))
run_append c (d ∷ a) b w e = by_test (is_word_byte d) (λ t. rw t (ap suc (run_append d a b t e))) (λ t. rw t)

-- ---- by the first byte

pub tokens_skip : (k : ℕ) (s : List ℕ) → tokens_from k s ≡ tokens_in (drop k s)
unfolding tokens_from
tokens_skip zero s = refl
tokens_skip (suc k) [] = refl
tokens_skip (suc k) (b ∷ s) = tokens_skip k s

pub place_skip : (k n : ℕ) (s : List ℕ) → k ≤ length s → place_from k n s ≡ k + place_in n (drop k s)
unfolding place_from
place_skip zero n s l = sym (zero-add (place_in n s))
place_skip (suc k) n [] l = absurd (omega arith)
place_skip (suc k) n (b ∷ s) l = omega (arith, place_skip k n s (omega arith))

pub tokens_separator : (b : ℕ) (s : List ℕ) → is_separator b ≡ true → tokens_in (b ∷ s) ≡ tokens_in s
unfolding tokens_from
tokens_separator b s e = rw (e, tokens_from)

pub tokens_word : (b : ℕ) (s : List ℕ) → is_word_byte b ≡ true → tokens_in (b ∷ s) ≡ keyword_of (b ∷ take (run_length s) s) ∷ tokens_from (run_length s) s
unfolding tokens_from
tokens_word b s e = rw (word_no_separator b e, e, tokens_from)

pub tokens_mark : (b : ℕ) (s : List ℕ) → is_separator b ≡ false → is_word_byte b ≡ false → tokens_in (b ∷ s) ≡ mark_of b ∷ tokens_in s
unfolding tokens_from
tokens_mark b s e f = rw (e, f, tokens_from)

pub place_separator : (n b : ℕ) (s : List ℕ) → is_separator b ≡ true → place_in n (b ∷ s) ≡ suc (place_in n s)
unfolding place_from
place_separator n b s e = rw (e, place_from)

pub place_front : (b : ℕ) (s : List ℕ) → is_separator b ≡ false → place_in 0 (b ∷ s) ≡ 0
unfolding place_from
place_front b s e = rw (e, place_from)

pub place_word : (n b : ℕ) (s : List ℕ) → is_word_byte b ≡ true → place_in (suc n) (b ∷ s) ≡ suc (run_length s + place_in n (drop (run_length s) s))
unfolding place_from
place_word n b s e = rw (word_no_separator b e, e, place_from) (ap suc (place_skip (run_length s) n s (run_most s)))

pub place_mark : (n b : ℕ) (s : List ℕ) → is_separator b ≡ false → is_word_byte b ≡ false → place_in (suc n) (b ∷ s) ≡ suc (place_in n s)
unfolding place_from
place_mark n b s e f = rw (e, f, place_from)

-- ---- two texts

apart_behind : (c : ℕ) (a b : List ℕ) → is_apart (c ∷ a) b ≡ true → is_apart a b ≡ true
unfolding ends_word
apart_behind c [] b e = refl
apart_behind c (d ∷ a) b e = e

-- behind some bytes of the first text
from_append : (k : ℕ) (a b : List ℕ) → k ≤ length a → is_apart a b ≡ true → tokens_from k (a ++ b) ≡ tokens_from k a ++ tokens_in b
unfolding tokens_from
from_append zero [] b l e = refl
from_append (suc k) [] b l e = absurd (omega arith)
from_append (suc k) (c ∷ a) b l e = from_append k a b (omega arith) (apart_behind c a b e)
from_append zero (c ∷ a) b l e =
    let behind = apart_behind c a b e in
    let rest = from_append zero a b (omega arith) behind in
    by_test (is_word_byte c)
    (λ w.
    rw
    (tokens_word c (a ++ b) w, tokens_word c a w, run_append c a b w e, take-append-le (run_length a) a b (run_most a), from_append (run_length a) a b (run_most a) behind))
    (λ w.
    by_test (is_separator c) (λ s. rw (tokens_separator c (a ++ b) s, tokens_separator c a s, rest))
    (λ s. rw (tokens_mark c (a ++ b) s w, tokens_mark c a s w, rest)))

pub tokens_append : (a b : List ℕ) → is_apart a b ≡ true → tokens_in (a ++ b) ≡ tokens_in a ++ tokens_in b
tokens_append a b e = from_append zero a b (omega arith) e

places_from : (k : ℕ) (a b : List ℕ) → k ≤ length a → is_apart a b ≡ true → place_from k (length (tokens_from k a)) (a ++ b) ≡ length a + place_in 0 b
unfolding tokens_from place_from
places_from zero [] b l e = sym (zero-add (place_in 0 b))
places_from (suc k) [] b l e = absurd (omega arith)
places_from (suc k) (c ∷ a) b l e = omega (arith, places_from k a b (omega arith) (apart_behind c a b e))
places_from zero (c ∷ a) b l e =
    let behind = apart_behind c a b e in
    let rest = places_from zero a b (omega arith) behind in
    by_test (is_word_byte c)
    (λ w.
    let run = run_length a in
    let n = length (tokens_from run a) in
    let skip = place_skip run n (a ++ b) (omega (arith, run_most a, length-append a b)) in
    let next = rw (run_append c a b w e) at (place_word n c (a ++ b) w) in
    rw (tokens_word c a w) (omega (arith, next, skip, places_from run a b (run_most a) behind)))
    (λ w.
    by_test (is_separator c) (λ s. rw (tokens_separator c a s) (omega (arith, place_separator (length (tokens_in a)) c (a ++ b) s, rest)))
    (λ s. rw (tokens_mark c a s w) (omega (arith, place_mark (length (tokens_in a)) c (a ++ b) s w, rest))))

pub places_append : (a b : List ℕ) → is_apart a b ≡ true → place_in (length (tokens_in a)) (a ++ b) ≡ length a + place_in 0 b
places_append a b e = places_from zero a b (omega arith) e

-- ---- the token that a text begins with

pub record Begins (s : List ℕ) (t : Token) (e : ℕ) : Type 0 where
  pub least : 1 ≤ e
  pub most : e ≤ length s
  pub apart : is_apart (take e s) (drop e s) ≡ true
  pub tokens : tokens_in s ≡ t ∷ tokens_in (drop e s)
  pub place : place_in 0 s ≡ 0
  pub places : (n : ℕ) → place_in (n + 1) s ≡ e + place_in n (drop e s)

pub run_ends : (s : List ℕ) → begins_word (drop (run_length s) s) ≡ false
unfolding run_length
run_ends [] = refl
run_ends (b ∷ s) = by_test (is_word_byte b) (λ t. rw t (run_ends s)) (λ t. rw t t)

pub begins_word_lem : (b : ℕ) (s : List ℕ) → is_word_byte b ≡ true → Begins (b ∷ s) (keyword_of (take (run_length (b ∷ s)) (b ∷ s))) (run_length (b ∷ s))
unfolding run_length
begins_word_lem b s e =
    let long : run_length (b ∷ s) ≡ suc (run_length s) = rw e in
    rw long
    (record {
      least = omega arith;
      most = omega (arith, run_most s);
      apart = apart_begins (take (suc (run_length s)) (b ∷ s)) (drop (run_length s) s) (run_ends s);
      tokens = tokens_word b s e ∙ ap (λ (ts : List Token). keyword_of (b ∷ take (run_length s) s) ∷ ts) (tokens_skip (run_length s) s);
      place = place_front b s (word_no_separator b e);
      places = λ n. rw (add-one n) (omega (arith, place_word n b s e));
    })

pub word_at : (s : List ℕ) (i : ℕ) → i < length s → is_word_byte (get_or s i 0) ≡ true →
    Begins (drop i s) (keyword_of (take (run_length (drop i s)) (drop i s))) (run_length (drop i s))
word_at s i l e = rw (here s i l) (begins_word_lem (get_or s i 0) (drop (i + 1) s) e)

pub begins_mark : (b : ℕ) (s : List ℕ) → is_separator b ≡ false → is_word_byte b ≡ false → Begins (b ∷ s) (mark_of b) 1
unfolding ends_word
begins_mark b s e f =
    record {
      least = omega arith;
      most = omega arith;
      apart = rw f;
      tokens = tokens_mark b s e f;
      place = place_front b s e;
      places = λ n. rw (add-one n) (omega (arith, place_mark n b s e f));
    }

pub mark_at : (s : List ℕ) (i : ℕ) → i < length s → is_separator (get_or s i 0) ≡ false → is_word_byte (get_or s i 0) ≡ false →
    Begins (drop i s) (mark_of (get_or s i 0)) 1
mark_at s i l e f = rw (here s i l) (begins_mark (get_or s i 0) (drop (i + 1) s) e f)

-- a text begins with a token where it does not begin with a separator
pub begins_at : (s : List ℕ) (i : ℕ) → i < length s → is_separator (get_or s i 0) ≡ false → (t : Token) × (e : ℕ) × Begins (drop i s) t e
begins_at s i l e =
    by_test (is_word_byte (get_or s i 0)) (λ w. (keyword_of (take (run_length (drop i s)) (drop i s)), run_length (drop i s), word_at s i l w))
    (λ w. (mark_of (get_or s i 0), 1, mark_at s i l e w))
