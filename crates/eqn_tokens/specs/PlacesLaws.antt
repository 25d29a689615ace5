-- Laws of the tokens at the places of a text.
--     bytes_of                          the bytes of a token
--     Proper, word_proper, proper      a kind that is not the end has a token and bytes
--     proper_then, keyword_then        of a kind that has a token, and of a word
--     keyword_spelled, mark_bytes_lem, mark_spelled     the bytes of a word's kind and of a mark's
--     behind_tokens_lem, behind_places     nothing is lost behind separators
--     token_made, token_ended          the first token from a place on, made of the separators before it and of what begins there
--     front_separators, place_separators, token_separators     separators stand up to the first token
--     token_ordered, token_last, token_moves     where a token that is found starts and ends
-- Assumes nothing.
use Rattle.std.specs.Prelude.{◌≡◌, refl, true, false, ◌⊎◌, ℕ, zero, suc, ◌+◌, ◌-◌, ◌<◌, ◌≤◌, eqb, ltb, length, take, get_or}
use Rattle.std.proofs.Common.{sym, ◌∙◌, inl, inr, ⊎_elim, le_refl, add-one, arith, eqb-true, ltb-true, ltb-false, length-drop, drop-drop, get_or-drop}
use Rattle.std.proofs.Math.Path.{ap}
use mathlib.Core.List.{List, [], ◌∷◌}
use Rattle.std.proofs.Math.Decide.{le_ind}
use Rattle.std.proofs.Math.ListN.{drop, drop_of_length-le}
use Rattle.laws.specs.Truths.{by_test}
use Rattle.eqn_tokens.specs.declared.tokens.TokenKind.{TokenKind}
use Rattle.eqn_tokens.specs.declared.tokens.TokenKind.TheVariants.{Word, Keyword as Joining, Open, Close, Other, End}
use Rattle.eqn_tokens.specs.declared.tokens.Token as code
use Rattle.eqn_tokens.specs.Bytes.{is_separator, opening_brace, closing_brace, same}
use Rattle.eqn_tokens.specs.BytesLaws.{here}
use Rattle.eqn_tokens.specs.Tokens.{Token, other, keyword_of, token_bytes, mark_of, tokens_from, tokens_in, place_from, place_in}
use Rattle.eqn_tokens.specs.TokensLaws.{keyword_bytes_lem, Begins, begins_at, tokens_separator, place_separator, place_front}
use Rattle.eqn_tokens.specs.Values.{kind_as, token_then, MarkAs, HasBytes, IsSpelled, TokenAt, SeparatorsBefore}

-- the bytes of a token of a text
abbrev pub bytes_of : List ℕ → code.Token → List ℕ
bytes_of s t = take (t.end - t.start) (drop t.start s)

-- ---- kinds

pub record Proper (k : TokenKind) : Type 0 where
  pub then : (w : List ℕ) (ts : List Token) → token_then k w ts ≡ kind_as k w ∷ ts
  pub has : {start end : ℕ} → start < end → HasBytes k start end
  pub some : {start end : ℕ} → HasBytes k start end → start < end

pub word_proper : Proper Word
word_proper = record { then = λ w ts. refl; has = λ l. l; some = λ l. l }

pub proper : (k : TokenKind) → (k ≡ End) ⊎ Proper k
proper Word = inr word_proper
proper (Joining k) = inr (record { then = λ w ts. refl; has = λ l. l; some = λ l. l })
proper Open = inr (record { then = λ w ts. refl; has = λ l. l; some = λ l. l })
proper Close = inr (record { then = λ w ts. refl; has = λ l. l; some = λ l. l })
proper Other = inr (record { then = λ w ts. refl; has = λ l. l; some = λ l. l })
proper End = inl refl

pub nil_cons : {A : Type 0} {a : A} {l : List A} → [] ≡ a ∷ l → ⊥
nil_cons e = let never : ◌≡◌ {A = ℕ} 0 1 = cc in omega arith

-- of a kind that has a token
pub proper_then : (k : TokenKind) (w : List ℕ) (ts : List Token) {t : Token} {us : List Token} → token_then k w ts ≡ t ∷ us → Proper k
proper_then k w ts e = ⊎_elim (λ is. absurd (nil_cons (ap (λ (j : TokenKind). token_then j w ts) (sym is) ∙ e))) (λ p. p) (proper k)

-- a word is no end
pub keyword_then : (k : TokenKind) (w : List ℕ) → kind_as k w ≡ keyword_of w → (ts : List Token) → token_then k w ts ≡ keyword_of w ∷ ts
unfolding keyword_of token_bytes same
keyword_then k w e ts = ⊎_elim (λ is. absurd (no_end (rw is at e))) (λ p. p.then w ts ∙ ap (λ (t : Token). t ∷ ts) e) (proper k)
  where
    no_end : other 0 ≡ keyword_of w → ⊥
    no_end f =
        let is : w ≡ 0 ∷ [] = sym (keyword_bytes_lem w) ∙ ap token_bytes (sym f) in
        let word-too = f ∙ ap keyword_of is in
        let never : ◌≡◌ {A = ℕ} 0 1 = cc in
        omega arith

-- ---- bytes

-- a kind whose token has these bytes is spelled so
spelled_as : (k : TokenKind) {w : List ℕ} → token_bytes (kind_as k w) ≡ w → IsSpelled k w
unfolding token_bytes
spelled_as Word e = tt
spelled_as (Joining k) e = sym e
spelled_as Open e = sym e
spelled_as Close e = sym e
spelled_as Other e = sym (ap length e)
spelled_as End e = tt

pub keyword_spelled : (k : TokenKind) (w : List ℕ) → kind_as k w ≡ keyword_of w → IsSpelled k w
keyword_spelled k w e = spelled_as k (ap token_bytes e ∙ keyword_bytes_lem w)

pub mark_bytes_lem : (b : ℕ) → token_bytes (mark_of b) ≡ b ∷ []
unfolding token_bytes mark_of
mark_bytes_lem b =
    by_test (eqb b opening_brace) (λ e. rw (e, eqb-true b opening_brace e))
    (λ e. by_test (eqb b closing_brace) (λ f. rw (e, f, eqb-true b closing_brace f)) (λ f. rw (e, f)))

pub mark_spelled : (b : ℕ) (k : TokenKind) → MarkAs b k → IsSpelled k (b ∷ [])
mark_spelled b k h =
    let p = proper_then k (b ∷ []) [] (h [] []) in
    let is : kind_as k (b ∷ []) ≡ mark_of b = cc (p.then (b ∷ []) [], h [] []) in
    spelled_as k (ap token_bytes is ∙ mark_bytes_lem b)

-- ---- separators

module _ {s : List ℕ} {at r : ℕ} (b : SeparatorsBefore s at r) where
  -- what holds at the first place and is kept by a separator holds at the last
  kept : (P : ℕ → Type 0) → P at → ((i : ℕ) → i < length s → is_separator (get_or s i 0) ≡ true → P i → P (i + 1)) → P r
  kept P first keeps =
      le_ind (λ (i : ℕ). i ≤ r → P i) (λ l. first)
      (λ i l p m. rw (add-one i) at (keeps i (omega (arith, b.within)) (b.all i l m) (p (omega arith)))) r b.behind (le_refl r)

  pub behind_tokens_lem : tokens_in (drop at s) ≡ tokens_in (drop r s)
  behind_tokens_lem =
      kept (λ (i : ℕ). tokens_in (drop at s) ≡ tokens_in (drop i s)) refl
      (λ i l t e. e ∙ ap tokens_in (here s i l) ∙ tokens_separator (get_or s i 0) (drop (i + 1) s) t)

  pub behind_places : (n : ℕ) → at + place_in n (drop at s) ≡ r + place_in n (drop r s)
  behind_places n =
      kept (λ (i : ℕ). at + place_in n (drop at s) ≡ i + place_in n (drop i s)) refl
      (λ i l t e. omega (arith, e, ap (place_in n) (here s i l), place_separator n (get_or s i 0) (drop (i + 1) s) t))

  -- ---- the first token from a place on

  pub token_made : (k : TokenKind) {t : Token} {e end : ℕ} → Begins (drop r s) t e → end ≡ r + e →
      ((ts : List Token) → token_then k (take e (drop r s)) ts ≡ t ∷ ts) → IsSpelled k (take e (drop r s)) →
      TokenAt s at (record { kind = k; start = r; end = end })
  token_made k {t} {e} {end} f is then spelled =
      let behind : drop e (drop r s) ≡ drop end s = drop-drop e r s ∙ ap (λ (i : ℕ). drop i s) (sym is) in
      let long : end - r ≡ e = omega arith in
      record {
        behind = b.behind;
        some = (proper_then k (take e (drop r s)) [] (then [])).has (omega (arith, f.least));
        within = omega (arith, f.most, length-drop r s, b.within);
        spelled = rw long spelled;
        tokens = behind_tokens_lem ∙ f.tokens ∙ rw (long, ← behind) (sym (then _));
        place = omega (arith, behind_places 0, f.place);
        places = λ n. omega (arith, behind_places (n + 1), f.places n, ap (place_in n) behind);
      }

  pub token_ended : r ≡ length s → TokenAt s at (record { kind = End; start = r; end = r })
  unfolding tokens_from place_from
  token_ended is =
      let none_left : drop r s ≡ [] = drop_of_length-le s {i = r} (omega arith) in
      record {
        behind = b.behind;
        some = refl;
        within = b.within;
        spelled = tt;
        tokens = behind_tokens_lem ∙ ap tokens_in none_left;
        place = omega (arith, behind_places 0, ap (place_in 0) none_left);
        places = λ n. omega (arith, behind_places (n + 1), ap (place_in (n + 1)) none_left, ap (place_in n) none_left);
      }

-- ---- the place of the first token

pub front_separators : (s : List ℕ) → SeparatorsBefore s 0 (place_in 0 s)
unfolding place_from
front_separators [] = record { behind = omega arith; within = omega arith; all = λ i l m. absurd (omega arith); last = λ l. absurd (omega arith) }
front_separators (b ∷ s) = by_test (is_separator b) (λ t. more t (front_separators s)) at_once
  where
    all : {r : ℕ} → is_separator b ≡ true → SeparatorsBefore s 0 r → (i : ℕ) → i < suc r → is_separator (get_or (b ∷ s) i 0) ≡ true
    all t f zero l = t
    all t f (suc i) l = f.all i (omega arith) (omega arith)

    more : is_separator b ≡ true → SeparatorsBefore s 0 (place_in 0 s) → SeparatorsBefore (b ∷ s) 0 (place_in 0 (b ∷ s))
    more t f =
        rw (place_separator 0 b s t)
        (record { behind = omega arith; within = omega (arith, f.within); all = λ i l m. all t f i m; last = λ l. f.last (omega arith) })

    at_once : is_separator b ≡ false → SeparatorsBefore (b ∷ s) 0 (place_in 0 (b ∷ s))
    at_once t = rw (place_front b s t) (record { behind = omega arith; within = omega arith; all = λ i l m. absurd (omega arith); last = λ l. t })

pub place_separators : (s : List ℕ) (at : ℕ) → at ≤ length s → SeparatorsBefore s at (at + place_in 0 (drop at s))
place_separators s at l =
    let f = front_separators (drop at s) in
    let p = place_in 0 (drop at s) in
    record {
      behind = omega arith;
      within = omega (arith, f.within, length-drop at s);
      all =
          λ i m n.
          let back : at + (i - at) ≡ i = omega arith in
          rw (get_or-drop at s (i - at) 0, back) at (f.all (i - at) (omega arith) (omega arith));
      last = λ m. rw (get_or-drop at s p 0) at (f.last (omega (arith, length-drop at s)));
    }

module _ {s : List ℕ} {at : ℕ} {t : code.Token} (f : TokenAt s at t) where
  pub token_ordered : t.start ≤ t.end
  token_ordered = ⊎_elim (λ is. let same : t.start ≡ t.end = rw is at f.some in omega arith) (λ p. omega (arith, p.some f.some)) (proper t.kind)

  pub token_separators : SeparatorsBefore s at t.start
  token_separators = rw f.place at (place_separators s at (omega (arith, f.behind, token_ordered, f.within)))

  -- behind the last token there is none
  pub token_last : t.kind ≡ End → t.start ≡ length s
  token_last is =
      let separators = token_separators in
      let none_left : tokens_in (drop at s) ≡ [] =
      f.tokens ∙ ap (λ (k : TokenKind). token_then k (bytes_of s t) (tokens_in (drop t.end s))) is in
      by_test (ltb t.start (length s))
      (λ l.
      let inside = ltb-true _ _ l in
      let b = begins_at s t.start inside (separators.last inside) in
      absurd (nil_cons (sym none_left ∙ behind_tokens_lem separators ∙ b.2.tokens)))
      (λ l. omega (arith, separators.within, ltb-false t.start (length s) l))

  pub token_moves : at < length s → at < t.end
  token_moves l =
      ⊎_elim (λ is. omega (arith, token_last is, token_ordered)) (λ p. omega (arith, p.some f.some, f.behind)) (proper t.kind)
