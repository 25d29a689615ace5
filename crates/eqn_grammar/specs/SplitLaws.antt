-- A derivation's tokens are taken apart by scanning: into the expressions of a row, and at the last keyword that stands in no braces,
-- from the keywords that bind loosest to those that bind tightest.
--     first_expression_lem                   of a row, the tokens of its first expression and those of the others
--     last_to, no_to                     of an expression, those before `to` and behind it; or there is none
--     last_from_lem, no_from                 the same of what stands before `to`
--     last_over, no_over                 the same of fractions
--     last_sup, no_sup                   the same of an operand of `over`
--     last_sub, no_sub                   the same of what stands before `sup`
--     limited_without_to, scripted_without_sup     without the last part, the tokens are those that would stand before it
--     none_in_primary, no_over_in_scripted, no_from_in_overs     a part has no keyword that binds looser, outside braces
-- One induction over a derivation serves every scan: what goes on from token to token as `Scan` says is so of each of its parts
-- (`row_scanned` and those behind it). There are three: tokens without the keyword are gone over (`passing`), a keyword that stands
-- behind tokens is found from before them (`finding`), and the tokens of an expression stay in it (`staying`).
-- Assumes nothing.
use Rattle.std.specs.Prelude.{◌≡◌, refl, Bool, true, false, ◌&&◌, ℕ, suc, eqb}
use Rattle.std.proofs.Common.{ap, ◌∙◌}
use Rattle.std.proofs.Math.Bool.{and-false}
use mathlib.Core.List.{List, [], ◌∷◌, ◌++◌, append_assoc, append-nil}
use Rattle.std.proofs.Math.Option.{none, some}
use Rattle.std.proofs.Math.Dec.{eqb-suc-zero}
use borrow.Author.Tests.{eq-eqb}
use Rattle.eqn_tokens.specs.Tokens.{Token, word, keyword, opening, closing}
use Rattle.eqn_grammar.specs.Grammar.{Row, nil, beside, Limited, limited, NoOvers, no_overs, some_overs, Overs, single, fraction, Scripted, scripted, NoPrimary, no_primary, some_primary, Primary, named, braced, row_tokens, limited_tokens, limit_tokens, overs_tokens, scripted_tokens, script_tokens, primary_tokens}
use Rattle.eqn_grammar.specs.Splits.{level_after, keyword_number, is_this_keyword, begins_operand, last_from, last_outside, ended_after, first_from, first_expression}
use Rattle.eqn_tokens.specs.declared.tokens.Keyword.{Keyword}
use Rattle.eqn_tokens.specs.declared.tokens.Keyword.TheVariants.{Sub, Sup, Over, From, To}

-- ---- one induction for every scan

-- what a scan has to have. `Goes n k`: it goes over that keyword in n braces. `Q n a ts b`: it goes over those tokens in n braces; a and b
-- say whether an operand has just ended before them and with them
record Scan (Goes : ℕ → Keyword → Type 0) (Q : ℕ → Bool → List Token → Bool → Type 0) : Type 0 where
  inside : (n : ℕ) (k : Keyword) → Goes (suc n) k
  empty : (n : ℕ) (a : Bool) → Q n a [] a
  append : (n : ℕ) (a b c : Bool) (ts us : List Token) → Q n a ts b → Q n b us c → Q n a (ts ++ us) c
  of_word : (n : ℕ) (w : List ℕ) → Q n false (word w ∷ []) true
  of_keyword : (n : ℕ) (k : Keyword) → Goes n k → Q n true (keyword k ∷ []) false
  aside : (n : ℕ) → Q (suc n) true [] false
  of_braces : (n : ℕ) (ts : List Token) → Q (suc n) false ts false → Q n false (opening ∷ (ts ++ closing ∷ [])) true

-- the keywords in fractions
abbrev GoesThree : (ℕ → Keyword → Type 0) → ℕ → Type 0
GoesThree Goes n = Goes n Sub × Goes n Sup × Goes n Over

three : (Goes : ℕ → Keyword → Type 0) (n : ℕ) → ((k : Keyword) → Goes n k) → GoesThree Goes n
three Goes n h = (h Sub, h Sup, h Over)

module _ (Goes : ℕ → Keyword → Type 0) (Q : ℕ → Bool → List Token → Bool → Type 0) (S : Scan Goes Q) where
  mutual
    unfolding row_tokens

    row_scanned : (r : Row) (n : ℕ) → Q (suc n) false (row_tokens r) false
    row_scanned nil n = S.empty (suc n) false
    row_scanned (beside l r) n =
        S.append (suc n) false true false (limited_tokens l) (row_tokens r) (limited_scanned l (suc n) (S.inside n))
        (S.append (suc n) true false false [] (row_tokens r) (S.aside n) (row_scanned r n))

    limited_scanned : (l : Limited) (n : ℕ) → ((k : Keyword) → Goes n k) → Q n false (limited_tokens l) true
    limited_scanned (limited o f t) n h =
        S.append n false true true (overs_tokens o) (limit_tokens From f ++ limit_tokens To t) (overs_scanned o n (three Goes n h))
        (S.append n true true true (limit_tokens From f) (limit_tokens To t) (limit_scanned f n From (h From) (three Goes n h))
        (limit_scanned t n To (h To) (three Goes n h)))

    limit_scanned : (f : NoOvers) (n : ℕ) (k : Keyword) → Goes n k → GoesThree Goes n → Q n true (limit_tokens k f) true
    limit_scanned no_overs n k h v = S.empty n true
    limit_scanned (some_overs o) n k h v =
        S.append n true false true (keyword k ∷ []) (overs_tokens o) (S.of_keyword n k h) (overs_scanned o n v)

    overs_scanned : (o : Overs) (n : ℕ) → GoesThree Goes n → Q n false (overs_tokens o) true
    overs_scanned (single s) n v = scripted_scanned s n v.0 v.1
    overs_scanned (fraction o s) n v =
        S.append n false true true (overs_tokens o) (keyword Over ∷ scripted_tokens s) (overs_scanned o n v)
        (S.append n true false true (keyword Over ∷ []) (scripted_tokens s) (S.of_keyword n Over v.2) (scripted_scanned s n v.0 v.1))

    scripted_scanned : (s : Scripted) (n : ℕ) → Goes n Sub → Goes n Sup → Q n false (scripted_tokens s) true
    scripted_scanned (scripted p b q) n u v =
        S.append n false true true (primary_tokens p) (script_tokens Sub b ++ script_tokens Sup q) (primary_scanned p n)
        (S.append n true true true (script_tokens Sub b) (script_tokens Sup q) (script_scanned b n Sub u) (script_scanned q n Sup v))

    script_scanned : (b : NoPrimary) (n : ℕ) (k : Keyword) → Goes n k → Q n true (script_tokens k b) true
    script_scanned no_primary n k h = S.empty n true
    script_scanned (some_primary p) n k h =
        S.append n true false true (keyword k ∷ []) (primary_tokens p) (S.of_keyword n k h) (primary_scanned p n)

    primary_scanned : (p : Primary) (n : ℕ) → Q n false (primary_tokens p) true
    primary_scanned (named w) n = S.of_word n w
    primary_scanned (braced r) n = S.of_braces n (row_tokens r) (row_scanned r n)

-- ---- the last keyword

module _ (j : Keyword) where
  -- a keyword in n braces that is not the one that is looked for
  abbrev Skipped : ℕ → Keyword → Type 0
  Skipped n k = (eqb n 0 && is_this_keyword j (keyword k)) ≡ false

  skipped_inside : (n : ℕ) (k : Keyword) → Skipped (suc n) k
  skipped_inside n k = rw eqb-suc-zero

  -- tokens that the scan goes over
  Passed : ℕ → List Token → Type 0
  Passed n ts = (us : List Token) → last_from j n us ≡ none → last_from j n (ts ++ us) ≡ none

  passed_append : (n : ℕ) (ts us : List Token) → Passed n ts → Passed n us → Passed n (ts ++ us)
  unfolding Passed
  passed_append n ts us p q vs e = rw append_assoc (p (us ++ vs) (q vs e))

  passed_one : (n : ℕ) (t : Token) (us : List Token) → (eqb n 0 && is_this_keyword j t) ≡ false → last_from j (level_after n t) us ≡ none →
      last_from j n (t ∷ us) ≡ none
  unfolding last_from
  passed_one n t us h e = rw (h, e)

  passed_keyword : (n : ℕ) (k : Keyword) → Skipped n k → Passed n (keyword k ∷ [])
  unfolding Passed
  passed_keyword n k h us e = passed_one n (keyword k) us h e

  mark_skipped : (n : ℕ) (t : Token) → is_this_keyword j t ≡ false → (eqb n 0 && is_this_keyword j t) ≡ false
  mark_skipped n t h = ap (λ (b : Bool). eqb n 0 && b) h ∙ and-false (eqb n 0)

  passed_word : (n : ℕ) (w : List ℕ) → Passed n (word w ∷ [])
  unfolding Passed
  passed_word n w us e = passed_one n (word w) us (mark_skipped n (word w) refl) e

  passed_braces : (n : ℕ) (ts : List Token) → Passed (suc n) ts → Passed n (opening ∷ (ts ++ closing ∷ []))
  unfolding Passed
  passed_braces n ts p us e =
      passed_one n opening ((ts ++ closing ∷ []) ++ us) (mark_skipped n opening refl)
      (rw append_assoc (p (closing ∷ us) (passed_one (suc n) closing us (mark_skipped (suc n) closing refl) e)))

  passing : Scan Skipped (λ n a ts b. Passed n ts)
  unfolding Passed
  passing =
      record {
        inside = skipped_inside;
        empty = λ n a us e. e;
        append = λ n a b c. passed_append n;
        of_word = passed_word;
        of_keyword = passed_keyword;
        aside = λ n us e. e;
        of_braces = passed_braces;
      }

  -- tokens behind which the last keyword is the last of all
  FoundBehind : ℕ → List Token → Type 0
  FoundBehind n ts = (us : List Token) (p : List Token × List Token) → last_from j n us ≡ some p → last_from j n (ts ++ us) ≡ some (ts ++ p.0, p.1)

  found_one : (n : ℕ) (t : Token) (us : List Token) (p : List Token × List Token) → last_from j (level_after n t) us ≡ some p →
      last_from j n (t ∷ us) ≡ some (t ∷ p.0, p.1)
  unfolding last_from
  found_one n t us p e = rw e

  found_append : (n : ℕ) (ts us : List Token) → FoundBehind n ts → FoundBehind n us → FoundBehind n (ts ++ us)
  unfolding FoundBehind
  found_append n ts us f g vs p e = simp append_assoc (f (us ++ vs) (us ++ p.0, p.1) (g vs p e))

  found_braces : (n : ℕ) (ts : List Token) → FoundBehind (suc n) ts → FoundBehind n (opening ∷ (ts ++ closing ∷ []))
  unfolding FoundBehind
  found_braces n ts f us p e =
      simp append_assoc
      (found_one n opening (ts ++ closing ∷ us) (ts ++ closing ∷ p.0, p.1)
      (f (closing ∷ us) (closing ∷ p.0, p.1) (found_one (suc n) closing us p e)))

  finding : Scan (λ n k. Unit {0}) (λ n a ts b. FoundBehind n ts)
  unfolding FoundBehind
  finding =
      record {
        inside = λ n k. tt;
        empty = λ n a us p e. e;
        append = λ n a b c. found_append n;
        of_word = λ n w us p e. found_one n (word w) us p e;
        of_keyword = λ n k h us p e. found_one n (keyword k) us p e;
        aside = λ n us p e. e;
        of_braces = found_braces;
      }

  none_outside : (ts : List Token) → Passed 0 ts → last_outside j ts ≡ none
  unfolding Passed last_from
  none_outside ts p = rw append-nil at (p [] refl)

  found_here : (us : List Token) → last_from j 0 us ≡ none → last_from j 0 (keyword j ∷ us) ≡ some ([], us)
  unfolding last_from
  found_here us e = rw (e, eq-eqb (keyword_number j) (keyword_number j) refl)

  split_at : (ts us : List Token) → FoundBehind 0 ts → Passed 0 us → last_outside j (ts ++ keyword j ∷ us) ≡ some (ts, us)
  unfolding FoundBehind
  split_at ts us f p = f (keyword j ∷ us) ([], us) (found_here us (none_outside us p)) ∙ rw append-nil

-- ---- the first expression

-- from where an operand has just ended, or not
abbrev first_behind : ℕ → Bool → List Token → List Token × List Token
first_behind n a ts = first_from n (eqb n 0 && a) ts

abbrev pub in_front : List Token → List Token × List Token → List Token × List Token
in_front ts p = (ts ++ p.0, p.1)

-- tokens that belong to the expression
Stays : ℕ → Bool → List Token → Bool → Type 0
Stays n a ts b = (us : List Token) → first_behind n a (ts ++ us) ≡ in_front ts (first_behind n b us)

stays_one : (n : ℕ) (ended : Bool) (t : Token) (us : List Token) → (ended && begins_operand t) ≡ false →
    first_from n ended (t ∷ us) ≡ in_front (t ∷ []) (first_from (level_after n t) (ended_after n t) us)
unfolding first_from
stays_one n ended t us h = rw (h, first_from)

stays_append : (n : ℕ) (a b c : Bool) (ts us : List Token) → Stays n a ts b → Stays n b us c → Stays n a (ts ++ us) c
unfolding Stays
stays_append n a b c ts us p q vs = simp append_assoc (p (us ++ vs) ∙ ap (in_front ts) (q vs))

stays_keyword : (n : ℕ) (k : Keyword) → Stays n true (keyword k ∷ []) false
unfolding Stays
stays_keyword n k us = stays_one n (eqb n 0 && true) (keyword k) us (and-false (eqb n 0 && true))

stays_braces : (n : ℕ) (ts : List Token) → Stays (suc n) false ts false → Stays n false (opening ∷ (ts ++ closing ∷ [])) true
unfolding Stays
stays_braces n ts p us =
    simp append_assoc
    (stays_one n (eqb n 0 && false) opening (ts ++ closing ∷ us) (rw and-false)
    ∙ ap (in_front (opening ∷ [])) (p (closing ∷ us))
    ∙ ap (in_front (opening ∷ ts)) (stays_one (suc n) (eqb (suc n) 0 && false) closing us (and-false (eqb (suc n) 0 && false))))

staying : Scan (λ n k. Unit {0}) Stays
unfolding Stays
staying =
    record {
      inside = λ n k. tt;
      empty = λ n a us. refl;
      append = stays_append;
      of_word = λ n w us. stays_one n (eqb n 0 && false) (word w) us (rw and-false);
      of_keyword = λ n k h. stays_keyword n k;
      aside = λ n us. rw eqb-suc-zero;
      of_braces = stays_braces;
    }

-- tokens that begin another expression
Begins : List Token → Type 0
Begins ts = (us : List Token) → first_from 0 true (ts ++ us) ≡ ([], ts ++ us)

begins_append : (ts us : List Token) → Begins ts → Begins (ts ++ us)
unfolding Begins
begins_append ts us b vs = simp append_assoc (b (us ++ vs))

begins_primary : (p : Primary) → Begins (primary_tokens p)
unfolding Begins first_from primary_tokens
begins_primary (named w) us = refl
begins_primary (braced r) us = refl

begins_overs : (o : Overs) → Begins (overs_tokens o)
unfolding overs_tokens
begins_overs (single (scripted p b q)) = begins_append (primary_tokens p) (script_tokens Sub b ++ script_tokens Sup q) (begins_primary p)
begins_overs (fraction o s) = begins_append (overs_tokens o) (keyword Over ∷ scripted_tokens s) (begins_overs o)

begins_row : (r : Row) → first_from 0 true (row_tokens r) ≡ ([], row_tokens r)
unfolding Begins first_from row_tokens
begins_row nil = refl
begins_row (beside (limited o f t) r) =
    begins_append (overs_tokens o) (limit_tokens From f ++ limit_tokens To t) (begins_overs o) (row_tokens r)

pub first_expression_lem : (l : Limited) (r : Row) → first_expression (limited_tokens l ++ row_tokens r) ≡ (limited_tokens l, row_tokens r)
unfolding Stays
first_expression_lem l r =
    limited_scanned (λ n k. Unit {0}) Stays staying l 0 (λ k. tt) (row_tokens r) ∙ rw (begins_row, append-nil)

-- ---- the parts of a derivation

passed_primary : (j : Keyword) (p : Primary) → Passed j 0 (primary_tokens p)
passed_primary j p = primary_scanned (Skipped j) (λ n a ts b. Passed j n ts) (passing j) p 0

passed_script : (j k : Keyword) (b : NoPrimary) → Skipped j 0 k → Passed j 0 (script_tokens k b)
passed_script j k b h = script_scanned (Skipped j) (λ n a ts b. Passed j n ts) (passing j) b 0 k h

passed_scripted : (j : Keyword) (s : Scripted) → Skipped j 0 Sub → Skipped j 0 Sup → Passed j 0 (scripted_tokens s)
passed_scripted j s = scripted_scanned (Skipped j) (λ n a ts b. Passed j n ts) (passing j) s 0

passed_overs : (j : Keyword) (o : Overs) → GoesThree (Skipped j) 0 → Passed j 0 (overs_tokens o)
passed_overs j o = overs_scanned (Skipped j) (λ n a ts b. Passed j n ts) (passing j) o 0

passed_limit : (j k : Keyword) (f : NoOvers) → Skipped j 0 k → GoesThree (Skipped j) 0 → Passed j 0 (limit_tokens k f)
passed_limit j k f = limit_scanned (Skipped j) (λ n a ts b. Passed j n ts) (passing j) f 0 k

found_primary : (j : Keyword) (p : Primary) → FoundBehind j 0 (primary_tokens p)
found_primary j p = primary_scanned (λ n k. Unit {0}) (λ n a ts b. FoundBehind j n ts) (finding j) p 0

found_script : (j k : Keyword) (b : NoPrimary) → FoundBehind j 0 (script_tokens k b)
found_script j k b = script_scanned (λ n k. Unit {0}) (λ n a ts b. FoundBehind j n ts) (finding j) b 0 k tt

found_overs : (j : Keyword) (o : Overs) → FoundBehind j 0 (overs_tokens o)
found_overs j o = overs_scanned (λ n k. Unit {0}) (λ n a ts b. FoundBehind j n ts) (finding j) o 0 (tt, tt, tt)

found_limit : (j k : Keyword) (f : NoOvers) → FoundBehind j 0 (limit_tokens k f)
found_limit j k f = limit_scanned (λ n k. Unit {0}) (λ n a ts b. FoundBehind j n ts) (finding j) f 0 k tt (tt, tt, tt)

pub none_in_primary : (j : Keyword) (p : Primary) → last_outside j (primary_tokens p) ≡ none
none_in_primary j p = none_outside j (primary_tokens p) (passed_primary j p)

pub no_over_in_scripted : (s : Scripted) → last_outside Over (scripted_tokens s) ≡ none
no_over_in_scripted s = none_outside Over (scripted_tokens s) (passed_scripted Over s refl refl)

pub no_from_in_overs : (o : Overs) → last_outside From (overs_tokens o) ≡ none
no_from_in_overs o = none_outside From (overs_tokens o) (passed_overs From o (refl, refl, refl))

pub last_to : (o : Overs) (f : NoOvers) (t : Overs) →
    last_outside To (limited_tokens (limited o f (some_overs t))) ≡ some (overs_tokens o ++ limit_tokens From f, overs_tokens t)
unfolding limited_tokens
last_to o f t =
    rw (← append_assoc (overs_tokens o) (limit_tokens From f) (keyword To ∷ overs_tokens t))
    (split_at To (overs_tokens o ++ limit_tokens From f) (overs_tokens t)
    (found_append To 0 (overs_tokens o) (limit_tokens From f) (found_overs To o) (found_limit To From f))
    (passed_overs To t (refl, refl, refl)))

pub limited_without_to : (o : Overs) (f : NoOvers) → limited_tokens (limited o f no_overs) ≡ overs_tokens o ++ limit_tokens From f
unfolding limited_tokens
limited_without_to o f = rw append-nil

pub no_to : (o : Overs) (f : NoOvers) → last_outside To (limited_tokens (limited o f no_overs)) ≡ none
no_to o f =
    rw limited_without_to
    (none_outside To (overs_tokens o ++ limit_tokens From f)
    (passed_append To 0 (overs_tokens o) (limit_tokens From f) (passed_overs To o (refl, refl, refl))
    (passed_limit To From f refl (refl, refl, refl))))

pub last_from_lem : (o f : Overs) →
    last_outside From (overs_tokens o ++ limit_tokens From (some_overs f)) ≡ some (overs_tokens o, overs_tokens f)
unfolding limit_tokens
last_from_lem o f = split_at From (overs_tokens o) (overs_tokens f) (found_overs From o) (passed_overs From f (refl, refl, refl))

pub no_from : (o : Overs) → last_outside From (overs_tokens o ++ limit_tokens From no_overs) ≡ none
unfolding limit_tokens
no_from o = rw append-nil (no_from_in_overs o)

pub last_over : (o : Overs) (s : Scripted) → last_outside Over (overs_tokens (fraction o s)) ≡ some (overs_tokens o, scripted_tokens s)
unfolding overs_tokens
last_over o s = split_at Over (overs_tokens o) (scripted_tokens s) (found_overs Over o) (passed_scripted Over s refl refl)

pub no_over : (s : Scripted) → last_outside Over (overs_tokens (single s)) ≡ none
unfolding overs_tokens
no_over s = no_over_in_scripted s

pub last_sup : (p : Primary) (b : NoPrimary) (q : Primary) →
    last_outside Sup (scripted_tokens (scripted p b (some_primary q))) ≡ some (primary_tokens p ++ script_tokens Sub b, primary_tokens q)
unfolding scripted_tokens
last_sup p b q =
    rw (← append_assoc (primary_tokens p) (script_tokens Sub b) (keyword Sup ∷ primary_tokens q))
    (split_at Sup (primary_tokens p ++ script_tokens Sub b) (primary_tokens q)
    (found_append Sup 0 (primary_tokens p) (script_tokens Sub b) (found_primary Sup p) (found_script Sup Sub b))
    (passed_primary Sup q))

pub scripted_without_sup : (p : Primary) (b : NoPrimary) → scripted_tokens (scripted p b no_primary) ≡ primary_tokens p ++ script_tokens Sub b
unfolding scripted_tokens
scripted_without_sup p b = rw append-nil

pub no_sup : (p : Primary) (b : NoPrimary) → last_outside Sup (scripted_tokens (scripted p b no_primary)) ≡ none
no_sup p b =
    rw scripted_without_sup
    (none_outside Sup (primary_tokens p ++ script_tokens Sub b)
    (passed_append Sup 0 (primary_tokens p) (script_tokens Sub b) (passed_primary Sup p) (passed_script Sup Sub b refl)))

pub last_sub : (p b : Primary) →
    last_outside Sub (primary_tokens p ++ script_tokens Sub (some_primary b)) ≡ some (primary_tokens p, primary_tokens b)
unfolding script_tokens
last_sub p b = split_at Sub (primary_tokens p) (primary_tokens b) (found_primary Sub p) (passed_primary Sub b)

pub no_sub : (p : Primary) → last_outside Sub (primary_tokens p ++ script_tokens Sub no_primary) ≡ none
unfolding script_tokens
no_sub p = rw append-nil (none_in_primary Sub p)
