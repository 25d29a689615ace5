-- `last_outside` meets its contract. The loop's invariant: the last keyword of the text is the last one in the rest, if there is one
-- there, and else the one that has been found.
-- Assumes nothing.
use mathlib.Core.Path.{◌≡◌, refl, sym, ap, ◌∙◌}
use mathlib.Core.Bool.{Bool, true, false, ◌&&◌, and-false, true≢false, false≢true}
use mathlib.Core.List.{List, [], ◌∷◌, ◌++◌, append-nil, append_assoc}
use mathlib.Core.Logic.{inl, inr, ⊎_elim}
use mathlib.Core.Option.{Option, none, some}
use Prim.Native.Nat.{ℕ, zero, suc, ◌≤◌, ◌<◌}
use native.Mathlib.Nat.{le_refl, sub-zero}
use native.Mathlib.Omega.{arith}
use borrow.Author.Tests.{eqb-true, ltb-true, ltb-false, lt-ltb, le-ltb}
use lib.Dec.{eqb, ltb}
use lib.ListN.{length, drop}
use Rattle.laws.specs.Truths.{by_test, both_true}
use Rattle.eqn_tokens.specs.Tokens.{Token, keyword_bytes, tokens_from, tokens_in}
use Rattle.eqn_tokens.specs.declared.tokens.TokenKind.{TokenKind}
use Rattle.eqn_tokens.specs.declared.tokens.TokenKind.TheVariants.{Word, Keyword as Joining, Open, Close, Other, End}
use Rattle.eqn_tokens.specs.declared.tokens.Token as code
use Rattle.eqn_tokens.specs.Values.{kind_as, IsSpelled, TokenAt}
use Rattle.eqn_tokens.specs.PlacesLaws.{token_separators, token_moves}
use Rattle.eqn_grammar.specs.Splits.{level_after, keyword_number, is_this_keyword, with_front, last_from, last_outside}
use Rattle.eqn_cuts.specs.Values.{kind_token, StandsAt, SplitAt}
use Rattle.eqn_cuts.specs.CutLaws.{between, boundary_first, none_behind, taken_tokens, start_place, alike, Passes, Stops, turn_boundary, turn, level_grows}
use Rattle.eqn_tokens.specs.declared.tokens.Keyword.{Keyword}
use Rattle.eqn_tokens.specs.declared.tokens.Keyword.TheVariants.{Sub, Sup, Over, From, To}
use Rattle.eqn_cuts.proofs.last_outside.Invariants.{TwoSides, or_else, latest, sides_at, Passing}
use Rattle.eqn_cuts.proofs.last_outside.Goals as goal
use Rattle.eqn_cuts.proofs.last_outside.Goals.{then-level-is_this_keyword, else-level-is_this_keyword}

-- ---- one token
latest_all : (r : Option TwoSides) → r ≡ latest [] none r
latest_all none = refl
latest_all (some p) = refl

last_goes : (j : Keyword) (n : ℕ) (front : List Token) (found : Option TwoSides) (t : Token) (us : List Token) →
    latest front found (last_from j n (t ∷ us))
    ≡ latest (front ++ (t ∷ [])) (or_else (eqb n 0 && is_this_keyword j t) (front, us) found) (last_from j (level_after n t) us)
unfolding last_from
last_goes j n front found t us = go (eqb n 0 && is_this_keyword j t) (last_from j (level_after n t) us)
  where
    go : (here : Bool) (r : Option TwoSides) → latest front found (with_front here t us r) ≡ latest (front ++ (t ∷ [])) (or_else here (front, us) found) r
    go here (some p) = rw append_assoc
    go true none = rw append-nil
    go false none = refl

-- ---- the bytes of a keyword
same_keyword : (k j : Keyword) → keyword_number k ≡ keyword_number j → k ≡ j
same_keyword k j e = sym (told k) ∙ ap numbered e ∙ told j
  where
    numbered : ℕ → Keyword
    numbered zero = Sub
    numbered (suc zero) = Sup
    numbered (suc (suc zero)) = Over
    numbered (suc (suc (suc zero))) = From
    numbered (suc (suc (suc (suc n)))) = To

    told : (k : Keyword) → numbered (keyword_number k) ≡ k
    told Sub = refl
    told Sup = refl
    told Over = refl
    told From = refl
    told To = refl

keyword_there : (j : Keyword) (kind : TokenKind) {w : List ℕ} → is_this_keyword j (kind_token kind) ≡ true → IsSpelled kind w → w ≡ keyword_bytes j
keyword_there j Word e h = absurd (false≢true e)
keyword_there j (Joining k) e h = h ∙ ap keyword_bytes (same_keyword k j (eqb-true (keyword_number k) (keyword_number j) e))
keyword_there j Open e h = absurd (false≢true e)
keyword_there j Close e h = absurd (false≢true e)
keyword_there j Other e h = absurd (false≢true e)
keyword_there j End e h = absurd (false≢true e)

-- ---- the loop
passing_first : (s : List ℕ) (j : Keyword) → Passing s j 0 0 (length s) (length s)
unfolding tokens_from
passing_first s j =
    record {
      boundary = boundary_first s (omega arith);
      low = omega arith;
      ordered = le_refl (length s);
      within = le_refl (length s);
      stands = λ l. absurd (omega arith);
      so_far = rw (le-ltb (length s) (length s) (le_refl (length s))) (latest_all (last_outside j (tokens_in s)));
    }

module _ {s : List ℕ} {j : Keyword} {at level start end : ℕ} (g : Passing s j at level start end) where
  passed_all : length s ≤ at → SplitAt s j (record { start = start; end = end })
  unfolding last_from
  passed_all l =
      let all : last_outside j (tokens_in s) ≡ sides_at s start end = rw (none_behind s l) at g.so_far in
      record {
        ordered = g.ordered;
        within = g.within;
        split =
            by_test (ltb start (length s)) (λ e. inl (record { there = ltb-true start (length s) e; stands = g.stands (ltb-true start (length s) e); parts = rw e at all }))
            (λ e. inr (record { nowhere = omega (arith, ltb-false start (length s) e, g.ordered, g.within); none_is = rw e at all }));
      }

  module _ {t : code.Token} (f : TokenAt s at t) (l : at < length s) where
    -- whether the token is such a keyword outside braces, and what has been found behind it
    abbrev is_here : Bool
    is_here = eqb level 0 && is_this_keyword j (kind_token t.kind)

    abbrev found_next : Option TwoSides
    found_next = or_else is_here (tokens_in (between s 0 at), tokens_in (drop t.end s)) (sides_at s start end)

    abbrev SoFar : Option TwoSides → Type 0
    SoFar found =
        last_outside j (tokens_in s)
        ≡ latest (tokens_in (between s 0 t.end)) found (last_from j (level_after level (kind_token t.kind)) (tokens_in (drop t.end s)))

    goes : Passes s 0 at t → SoFar found_next
    goes p =
        let token = kind_as t.kind p.bytes in
        let same = alike (is_this_keyword j) (λ w. refl) (λ b. refl) t.kind p.bytes in
        let levels = alike (level_after level) (λ w. refl) (λ b. refl) t.kind p.bytes in
        g.so_far
        ∙ rw (p.rest, p.front, ← levels, ← same)
        (last_goes j level (tokens_in (between s 0 at)) (sides_at s start end) token (tokens_in (drop t.end s)))

    stops_not : Stops s 0 at t → is_here ≡ false
    stops_not p = rw (p.is, and-false (eqb level 0))

    stops : Stops s 0 at t → SoFar found_next
    unfolding last_from
    stops p = g.so_far ∙ rw (p.rest, p.rest_next, stops_not p)

    passing : {start' end' : ℕ} → start' ≤ end' → end' ≤ length s → (start' < length s → StandsAt s j start' end') → found_next ≡ sides_at s start' end' →
        Passing s j t.end (level_after level (kind_token t.kind)) start' end'
    passing m n stands e =
        let onward = token_moves f l in
        record {
          boundary = turn_boundary g.boundary f l;
          low = omega (arith, g.low, level_grows level t.kind);
          ordered = m;
          within = n;
          stands = stands;
          so_far = rw e at (⊎_elim goes stops (turn g.boundary f l));
        }

    passing_on : is_here ≡ false → Passing s j t.end (level_after level (kind_token t.kind)) start end
    passing_on e = passing g.ordered g.within g.stands (rw e)

    passing_here : is_here ≡ true → Passing s j t.end (level_after level (kind_token t.kind)) t.start t.end
    passing_here e =
        let some = ⊎_elim (λ p. p.some) (λ p. absurd (true≢false (sym e ∙ stops_not p))) (turn g.boundary f l) in
        let there = lt-ltb t.start (length s) (omega (arith, f.within)) in
        let before = taken_tokens (token_separators f) in
        let this = (both_true {p = eqb level 0} e).1 in
        let stands : StandsAt s j t.start t.end =
        record { first = start_place g.boundary f; bytes = keyword_there j t.kind this f.spelled } in
        passing (omega arith) f.within (λ m. stands) (rw (e, there, sub-zero, before))

pub loop-at-init : goal.loop-at-init
loop-at-init c = let args = c.args in passing_first args.s.now args.keyword

pub loop-at-smaller : goal.loop-at-smaller
loop-at-smaller c = omega (arith, token_moves c.token_at-token.ensures c.loop-at-test.true)

pub loop-at-preserved : goal.loop-at-preserved
loop-at-preserved c =
    let inv = c.loop-at.invariant in
    let token = c.token_at-token.ensures in
    let inside = c.loop-at-test.true in
    rw c.level_after-level.ensures
    (elim c.if-level-is_this_keyword.branch [
      | then-level-is_this_keyword w ↦
          rw (w.start-is, w.end-is) (passing_here inv token inside (rw c.is_this_keyword.ensures at w.if-level-is_this_keyword.true))
      | else-level-is_this_keyword w ↦
          rw (w.start-is, w.end-is) (passing_on inv token inside (rw c.is_this_keyword.ensures at w.if-level-is_this_keyword.false))
    ])

pub returns : goal.returns
returns c = passed_all c.loop-at.invariant c.loop-at-test.false
