-- The places of the tokens of a text.
--     StartsAt, token_starts     the n-th token starts at `place_in n`: its bytes stand there, and from there on it is the first token
--     place_end                  where there is no n-th token, that place is the end
--     tokens_fewer               a text has at most as many tokens as bytes
-- A text has no token, or a first one behind separators (`parted`), and the others are those of the text behind it.
-- Assumes nothing.
use Rattle.std.specs.Prelude.{◌≡◌, false, List, [], ◌∷◌, ◌⊎◌, ℕ, zero, suc, ◌+◌, ◌≤◌, ◌<◌, ltb, length, take, drop, get_or}
use Rattle.std.proofs.Common.{sym, ap, ◌∙◌, inl, inr, ⊎_elim, add-one, arith, ltb-true, ltb-false, length-drop, drop_of_length-le, drop-drop}
use Rattle.laws.specs.Truths.{by_test}
use Rattle.eqn_tokens.specs.Bytes.{is_separator, is_word_byte}
use Rattle.eqn_tokens.specs.BytesLaws.{here}
use Rattle.eqn_tokens.specs.Tokens.{Token, token_bytes, keyword_of, mark_of, run_length, tokens_from, tokens_in, place_from, place_in}
use Rattle.eqn_tokens.specs.TokensLaws.{keyword_bytes_lem, tokens_separator, tokens_word, tokens_mark, Begins, word_at, mark_at}
use Rattle.eqn_tokens.specs.PlacesLaws.{mark_bytes_lem, behind_tokens_lem, behind_places, front_separators}

-- ---- the first token

record Front (s : List ℕ) (i : ℕ) : Type 0 where
  token : Token
  size : ℕ
  begins : Begins (drop i s) token size
  bytes : take size (drop i s) ≡ token_bytes token

front_token : (s : List ℕ) (i : ℕ) → i < length s → is_separator (get_or s i 0) ≡ false → Front s i
front_token s i l e =
    by_test (is_word_byte (get_or s i 0))
    (λ w.
    record {
      token = keyword_of (take (run_length (drop i s)) (drop i s));
      size = run_length (drop i s);
      begins = word_at s i l w;
      bytes = sym (keyword_bytes_lem (take (run_length (drop i s)) (drop i s)));
    })
    (λ w.
    record {
      token = mark_of (get_or s i 0);
      size = 1;
      begins = mark_at s i l e w;
      bytes = rw (here s i l) (sym (mark_bytes_lem (get_or s i 0)));
    })

record First (s : List ℕ) : Type 0 where
  token : Token
  size : ℕ
  some : 1 ≤ size
  within : place_in 0 s + size ≤ length s
  bytes : take size (drop (place_in 0 s) s) ≡ token_bytes token
  onward : tokens_in (drop (place_in 0 s) s) ≡ tokens_in s
  tokens : tokens_in s ≡ token ∷ tokens_in (drop (place_in 0 s + size) s)
  places : (n : ℕ) → place_in (suc n) s ≡ place_in 0 s + size + place_in n (drop (place_in 0 s + size) s)

record Without (s : List ℕ) : Type 0 where
  none_is : tokens_in s ≡ []
  ends : (n : ℕ) → place_in n s ≡ length s

first_there_lem : (s : List ℕ) → place_in 0 s < length s → First s
first_there_lem s l =
    let r = place_in 0 s in
    let separators = front_separators s in
    let f = front_token s r l (separators.last l) in
    let behind : drop f.size (drop r s) ≡ drop (r + f.size) s = drop-drop f.size r s in
    record {
      token = f.token;
      size = f.size;
      some = f.begins.least;
      within = omega (arith, f.begins.most, length-drop r s);
      bytes = f.bytes;
      onward = sym (behind_tokens_lem separators);
      tokens = behind_tokens_lem separators ∙ f.begins.tokens ∙ ap (λ (t : List ℕ). f.token ∷ tokens_in t) behind;
      places = λ n. rw (← add-one n) (omega (arith, behind_places separators (n + 1), f.begins.places n, ap (place_in n) behind));
    }

none_there : (s : List ℕ) → length s ≤ place_in 0 s → Without s
unfolding tokens_from place_from
none_there s l =
    let separators = front_separators s in
    let none_left : drop (place_in 0 s) s ≡ [] = drop_of_length-le s {i = place_in 0 s} l in
    record {
      none_is = behind_tokens_lem separators ∙ ap tokens_in none_left;
      ends = λ n. omega (arith, behind_places separators n, ap (place_in n) none_left, separators.within);
    }

parted : (s : List ℕ) → First s ⊎ Without s
parted s =
    by_test (ltb (place_in 0 s) (length s)) (λ l. inl (first_there_lem s (ltb-true _ _ l)))
    (λ l. inr (none_there s (ltb-false (place_in 0 s) (length s) l)))

-- ---- the n-th token

pub record StartsAt (s : List ℕ) (n : ℕ) : Type 0 where
  pub there : n < length (tokens_in s)
  pub token : Token
  pub nth : drop n (tokens_in s) ≡ token ∷ drop (suc n) (tokens_in s)
  pub size : ℕ
  pub some : 1 ≤ size
  pub within : place_in n s + size ≤ length s
  pub bytes : take size (drop (place_in n s) s) ≡ token_bytes token
  pub onward : tokens_in (drop (place_in n s) s) ≡ drop n (tokens_in s)

starts_later : {s : List ℕ} {n : ℕ} (f : First s) → StartsAt (drop (place_in 0 s + f.size) s) n → StartsAt s (suc n)
starts_later {s} {n} f later =
    let q = place_in 0 s + f.size in
    let place = f.places n in
    let behind : drop (place_in (suc n) s) s ≡ drop (place_in n (drop q s)) (drop q s) = rw (drop-drop, place) in
    record {
      there = omega (arith, later.there, ap length f.tokens);
      token = later.token;
      nth = rw f.tokens later.nth;
      size = later.size;
      some = later.some;
      within = omega (arith, later.within, place, f.within, length-drop q s);
      bytes = rw behind later.bytes;
      onward = rw (behind, f.tokens) later.onward;
    }

pub token_starts : (n : ℕ) (s : List ℕ) → n < length (tokens_in s) → StartsAt s n
token_starts zero s l =
    ⊎_elim
    (λ f.
    record {
      there = l;
      token = f.token;
      nth = rw f.tokens;
      size = f.size;
      some = f.some;
      within = f.within;
      bytes = f.bytes;
      onward = f.onward;
    })
    (λ w. absurd (omega (arith, ap length w.none_is))) (parted s)
token_starts (suc n) s l =
    ⊎_elim (λ f. starts_later f (token_starts n (drop (place_in 0 s + f.size) s) (omega (arith, ap length f.tokens))))
    (λ w. absurd (omega (arith, ap length w.none_is))) (parted s)

pub place_end : (n : ℕ) (s : List ℕ) → length (tokens_in s) ≤ n → place_in n s ≡ length s
place_end zero s l = ⊎_elim (λ f. absurd (omega (arith, ap length f.tokens))) (λ w. w.ends 0) (parted s)
place_end (suc n) s l =
    ⊎_elim
    (λ f.
    let q = place_in 0 s + f.size in
    omega (arith, f.places n, place_end n (drop q s) (omega (arith, ap length f.tokens)), length-drop q s, f.within))
    (λ w. w.ends (suc n)) (parted s)

-- ---- how many there are

fewer_from : (k : ℕ) (s : List ℕ) → length (tokens_from k s) ≤ length s
unfolding tokens_from
fewer_from k [] = omega arith
fewer_from (suc k) (b ∷ s) = omega (arith, fewer_from k s)
fewer_from zero (b ∷ s) =
    by_test (is_separator b) (λ e. rw (tokens_separator b s e) (omega (arith, fewer_from zero s)))
    (λ e.
    by_test (is_word_byte b) (λ w. rw (tokens_word b s w) (omega (arith, fewer_from (run_length s) s)))
    (λ w. rw (tokens_mark b s e w) (omega (arith, fewer_from zero s))))

pub tokens_fewer : (s : List ℕ) → length (tokens_in s) ≤ length s
tokens_fewer s = fewer_from zero s
