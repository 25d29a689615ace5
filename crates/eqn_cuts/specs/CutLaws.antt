-- Laws of the places at which a text is cut: a loop goes from token to token, and no word stands on both sides of a place that it comes to.
--     between                             the bytes from a place up to another
--     Boundary, boundary_first            such a place, behind the one at which the loop began; there is one at the beginning
--     boundary_tokens, boundary_next      the tokens of the text are those on its two sides; there is one at the end of a token
--     none_behind                         no token stands behind the end
--     taken_tokens, start_place           separators add no token to those before them; the place of the token that stands next
--     alike, level_grows                  a token's bytes change nothing that its kind decides; a token opens at most one brace
--     Passes, Stops, turn_boundary, turn  a turn of the loop: it passes one token, or the text has ended
-- Two texts that share no word have the tokens of the one and of the other (`tokens_append`). So the tokens passed are known from those
-- that are left: what both sides have behind them is taken away (`front_next`).
-- Assumes nothing.
use Rattle.std.specs.Prelude.{◌≡◌, refl, false, ◌⊎◌, ℕ, zero, suc, ◌+◌, ◌-◌, ◌<◌, ◌≤◌, ltb, length, take, drop}
use Rattle.std.proofs.Common.{sym, ap, ◌∙◌, inl, inr, ⊎_elim, le_refl, add-one, arith, ltb-true, ltb-false, length-take, length-drop, drop_of_length-le, take-append-drop, drop-drop, get_or-drop, take-suc}
use Rattle.std.proofs.Math.Bool.{true, and-false}
use Rattle.std.proofs.lemmas.Bool.{false≢true}
use mathlib.Core.List.{List, [], ◌∷◌, ◌++◌, append-nil, append_assoc, append_cancel_right}
use Rattle.std.proofs.Math.Nat.{sub_self, sub-zero}
use Rattle.std.proofs.Math.Decide.{le_ind}
use Rattle.std.proofs.Math.ListN.{get_or}
use Rattle.laws.specs.Truths.{by_test}
use Rattle.eqn_tokens.specs.Bytes.{is_separator, is_word_byte}
use Rattle.eqn_tokens.specs.BytesLaws.{here, word_no_separator}
use Rattle.eqn_tokens.specs.Tokens.{Token, word, other, tokens_from, tokens_in, place_in}
use Rattle.eqn_tokens.specs.TokensLaws.{is_apart, begins_word, ends_word, tokens_append, places_append, tokens_separator, place_front, begins_at}
use Rattle.eqn_tokens.specs.declared.tokens.TokenKind.{TokenKind}
use Rattle.eqn_tokens.specs.declared.tokens.TokenKind.TheVariants.{Word, Keyword as Joining, Open, Close, Other, End}
use Rattle.eqn_tokens.specs.declared.tokens.Token as code
use Rattle.eqn_tokens.specs.Values.{kind_as, TokenAt, SeparatorsBefore}
use Rattle.eqn_tokens.specs.PlacesLaws.{Proper, proper, behind_places, place_separators, token_separators, token_last, token_moves}
use Rattle.eqn_grammar.specs.Splits.{level_after}
use Rattle.eqn_cuts.specs.Values.{kind_token}

-- ---- words at the ends of bytes

separator_no_word : (b : ℕ) → is_separator b ≡ true → is_word_byte b ≡ false
separator_no_word b e = by_test (is_word_byte b) (λ w. absurd (false≢true (sym (word_no_separator b w) ∙ e))) (λ w. w)

-- the bytes from a place up to another
abbrev pub between : List ℕ → ℕ → ℕ → List ℕ
between s from at = take (at - from) (drop from s)

between_all : (s : List ℕ) {from at : ℕ} → from ≤ at → between s from at ++ drop at s ≡ drop from s
between_all s {from} {at} l =
    let back : from + (at - from) ≡ at = omega arith in
    let rest : drop at s ≡ drop (at - from) (drop from s) = rw (drop-drop, back) in
    rw rest (take-append-drop (at - from) (drop from s))

-- whether they end with a word, by the last of them
ends_taken : (s : List ℕ) (i : ℕ) → i < length s → ends_word (take (suc i) s) ≡ is_word_byte (get_or s i 0)
unfolding ends_word
ends_taken [] i l = absurd (omega arith)
ends_taken (b ∷ s) zero l = refl
ends_taken (b ∷ []) (suc i) l = absurd (omega arith)
ends_taken (b ∷ c ∷ s) (suc i) l = ends_taken (c ∷ s) i (omega arith)

ends_between : (s : List ℕ) {from end : ℕ} → from < end → end ≤ length s → ends_word (between s from end) ≡ is_word_byte (get_or s (end - 1) 0)
ends_between s {from} {end} l m =
    let i = end - 1 - from in
    let long : end - from ≡ suc i = omega arith in
    let last : from + i ≡ end - 1 = omega arith in
    rw long (rw (get_or-drop from s i 0, last) at (ends_taken (drop from s) i (omega (arith, length-drop from s))))

apart_ends : (a b : List ℕ) → is_apart a b ≡ true → begins_word b ≡ true → ends_word a ≡ false
apart_ends a b e w = by_test (ends_word a) (λ x. absurd (false≢true (rw (x, w) at e))) (λ x. x)

begins_there : (s : List ℕ) (i : ℕ) → begins_word (drop i s) ≡ true → (i < length s) × (is_word_byte (get_or s i 0) ≡ true)
begins_there [] zero e = absurd (false≢true e)
begins_there [] (suc i) e = absurd (false≢true e)
begins_there (b ∷ s) zero e = (omega arith, e)
begins_there (b ∷ s) (suc i) e = let rest = begins_there s i e in (omega (arith, rest.0), rest.1)

-- ---- places between words

-- a place behind another such that no word stands on both sides of it
pub record Boundary (s : List ℕ) (from at : ℕ) : Type 0 where
  pub behind : from ≤ at
  pub within : at ≤ length s
  pub apart : is_apart (between s from at) (drop at s) ≡ true

pub boundary_first : (s : List ℕ) {from : ℕ} → from ≤ length s → Boundary s from from
unfolding ends_word
boundary_first s {from} l = record { behind = le_refl from; within = l; apart = rw sub_self }

pub boundary_tokens : {s : List ℕ} {from at : ℕ} → Boundary s from at → tokens_in (drop from s) ≡ tokens_in (between s from at) ++ tokens_in (drop at s)
boundary_tokens {s} {from} {at} b = ap tokens_in (sym (between_all s b.behind)) ∙ tokens_append (between s from at) (drop at s) b.apart

boundary_place : {s : List ℕ} {at : ℕ} → Boundary s 0 at → place_in (length (tokens_in (take at s))) s ≡ at + place_in 0 (drop at s)
boundary_place {s} {at} b =
    let behind = rw (between_all s b.behind, sub-zero) at (places_append (between s 0 at) (drop at s) b.apart) in
    omega (arith, behind, length-take at s, b.within)

pub none_behind : (s : List ℕ) {at : ℕ} → length s ≤ at → tokens_in (drop at s) ≡ []
unfolding tokens_from
none_behind s {at} l = ap tokens_in (drop_of_length-le s {i = at} l)

-- ---- the token at a place

module _ {s : List ℕ} {at : ℕ} {t : code.Token} (f : TokenAt s at t) where
  -- where there is none left, the text has ended
  ended_last : t.kind ≡ End → t.end ≡ length s
  ended_last is = let same : t.start ≡ t.end = rw is at f.some in omega (arith, token_last f is)

  -- a word that stands at the token's end begins there: it is the next token, and what lies between the two are separators, if anything
  apart_word : {from : ℕ} → from < t.end → Proper t.kind → t.end < length s → is_word_byte (get_or s t.end 0) ≡ true →
      ends_word (between s from t.end) ≡ false
  apart_word {from} m p l w =
      let end = t.end in
      let has = p.some f.some in
      let separators = token_separators f in
      let begun = begins_at s t.start (omega (arith, has)) (separators.last (omega (arith, has))) in
      let e = begun.1 in
      let begins = begun.2 in
      let next = t.start + e in
      let rest : drop e (drop t.start s) ≡ drop next s = drop-drop e t.start s in
      let here-it-is : place_in 0 (drop end s) ≡ 0 = rw (here s end l) (place_front (get_or s end 0) (drop (end + 1) s) (word_no_separator (get_or s end 0) w)) in
      let is : next + place_in 0 (drop next s) ≡ end =
      omega (arith, f.places 0, behind_places separators 1, begins.places 0, ap (place_in 0) rest) in
      let after = rw is at (place_separators s next (omega arith)) in
      let last = ends_between s m f.within in
      by_test (ltb next end)
      (λ n. last ∙ separator_no_word (get_or s (end - 1) 0) (after.all (end - 1) (omega (arith, ltb-true next end n)) (omega arith)))
      (λ n.
      let at_end_lem : next ≡ end = omega (arith, ltb-false next end n) in
      let long : e ≡ end - t.start = omega arith in
      let word-there : begins_word (drop end s) ≡ true = rw (here s end l) w in
      let apart : is_apart (between s t.start end) (drop end s) ≡ true = rw (rest, at_end_lem, long) at begins.apart in
      last ∙ sym (ends_between s has f.within) ∙ apart_ends (between s t.start end) (drop end s) apart word-there)

  pub boundary_next : {from : ℕ} → from < t.end → Boundary s from t.end
  boundary_next {from} m =
      let end = t.end in
      record {
        behind = omega arith;
        within = f.within;
        apart =
            by_test (begins_word (drop end s))
            (λ e.
            let there = begins_there s end e in
            let ends = ⊎_elim (λ is. absurd (omega (arith, there.0, ended_last is))) (λ p. apart_word m p there.0 there.1) (proper t.kind) in
            rw ends)
            (λ e. rw (e, and-false (ends_word (between s from end))));
      }

module _ {s : List ℕ} {at r : ℕ} (b : SeparatorsBefore s at r) where
  pub taken_tokens : tokens_in (take r s) ≡ tokens_in (take at s)
  unfolding tokens_from
  taken_tokens =
      le_ind (λ (i : ℕ). i ≤ r → tokens_in (take i s) ≡ tokens_in (take at s)) (λ l. refl)
      (λ i l p m.
      let byte = get_or s i 0 in
      let separator = b.all i l m in
      let no_word : is_apart (take i s) (byte ∷ []) ≡ true = rw (separator_no_word byte separator, and-false (ends_word (take i s))) in
      rw (take-suc s i 0 (omega (arith, b.within)))
      (tokens_append (take i s) (byte ∷ []) no_word ∙ rw (tokens_separator byte [] separator, append-nil) (p (omega arith))))
      r b.behind (le_refl r)

pub start_place : {s : List ℕ} {at : ℕ} {t : code.Token} → Boundary s 0 at → TokenAt s at t →
    t.start ≡ place_in (length (tokens_in (take t.start s))) s
start_place b f = rw (taken_tokens (token_separators f)) (sym f.place ∙ sym (boundary_place b))

-- ---- a token by its kind

pub alike : {A : Type 0} (f : Token → A) → ((w : List ℕ) → f (word w) ≡ f (word [])) → ((b : ℕ) → f (other b) ≡ f (other 0)) → (k : TokenKind) (w : List ℕ) →
    f (kind_as k w) ≡ f (kind_token k)
alike f words others Word w = words w
alike f words others (Joining k) w = refl
alike f words others Open w = refl
alike f words others Close w = refl
alike f words others Other w = others (get_or w 0 0)
alike f words others End w = refl

pub level_grows : (n : ℕ) (k : TokenKind) → level_after n (kind_token k) ≤ n + 1
level_grows n Word = omega arith
level_grows n (Joining k) = omega arith
level_grows n Open = omega (arith, add-one n)
level_grows zero Close = omega arith
level_grows (suc n) Close = omega arith
level_grows n Other = omega arith
level_grows n End = omega arith

-- ---- a turn of a loop from token to token

pub record Passes (s : List ℕ) (from at : ℕ) (t : code.Token) : Type 0 where
  pub bytes : List ℕ
  pub front : tokens_in (between s from t.end) ≡ tokens_in (between s from at) ++ (kind_as t.kind bytes ∷ [])
  pub rest : tokens_in (drop at s) ≡ kind_as t.kind bytes ∷ tokens_in (drop t.end s)
  pub some : t.start < t.end

pub record Stops (s : List ℕ) (from at : ℕ) (t : code.Token) : Type 0 where
  pub is : t.kind ≡ End
  pub front : tokens_in (between s from t.end) ≡ tokens_in (between s from at)
  pub rest : tokens_in (drop at s) ≡ []
  pub rest_next : tokens_in (drop t.end s) ≡ []

module _ {s : List ℕ} {from at : ℕ} {t : code.Token} (b : Boundary s from at) (f : TokenAt s at t) (l : at < length s) where
  pub turn_boundary : Boundary s from t.end
  turn_boundary = boundary_next f (omega (arith, b.behind, token_moves f l))

  -- what stands before the next place, by what stands behind this one
  front_next : (ts : List Token) → tokens_in (drop at s) ≡ ts ++ tokens_in (drop t.end s) → tokens_in (between s from t.end) ≡ tokens_in (between s from at) ++ ts
  front_next ts e =
      let before = tokens_in (between s from at) in
      let behind = tokens_in (drop t.end s) in
      append_cancel_right (tokens_in (between s from t.end)) (before ++ ts) behind
      (sym (boundary_tokens turn_boundary) ∙ boundary_tokens b ∙ rw (append_assoc before ts behind) (ap (λ (us : List Token). before ++ us) e))

  pub turn : Passes s from at t ⊎ Stops s from at t
  turn =
      let w = take (t.end - t.start) (drop t.start s) in
      ⊎_elim
      (λ is.
      let rest_next = none_behind s {at = t.end} (omega (arith, ended_last f is)) in
      let rest : tokens_in (drop at s) ≡ [] = rw is at f.tokens in
      inr (record { is = is; front = front_next [] (rest ∙ sym rest_next) ∙ append-nil (tokens_in (between s from at)); rest = rest; rest_next = rest_next }))
      (λ p.
      let rest : tokens_in (drop at s) ≡ kind_as t.kind w ∷ tokens_in (drop t.end s) = f.tokens ∙ p.then w (tokens_in (drop t.end s)) in
      inl (record { bytes = w; front = front_next (kind_as t.kind w ∷ []) rest; rest = rest; some = p.some f.some }))
      (proper t.kind)
