-- `expression_end` meets its contract. The loop's invariant: the first expression is what has been passed and, of the rest, what the scan
-- goes on over.
-- Assumes nothing.
use mathlib.Core.Path.{◌≡◌, refl, sym, ap, ◌∙◌}
use mathlib.Core.Bool.{Bool, true, false, ◌&&◌, and-false, false≢true}
use mathlib.Core.List.{List, [], ◌∷◌, ◌++◌, append-nil, append_assoc}
use mathlib.Core.Logic.{⊎_elim}
use Prim.Native.Nat.{ℕ, ◌≤◌, ◌<◌}
use native.Mathlib.Nat.{sub_self}
use native.Mathlib.Omega.{arith}
use lib.ListN.{length, drop}
use Rattle.laws.specs.Truths.{both_true}
use Rattle.eqn_tokens.specs.Tokens.{Token, tokens_from, tokens_in}
use Rattle.eqn_tokens.specs.declared.tokens.Token as code
use Rattle.eqn_tokens.specs.Values.{kind_as, TokenAt}
use Rattle.eqn_tokens.specs.PlacesLaws.{nil_cons, token_ordered, token_last, token_moves}
use Rattle.eqn_grammar.specs.Splits.{level_after, begins_operand, ends_operand, ended_after, first_from}
use Rattle.eqn_cuts.specs.Values.{kind_token, EndsToken, ExpressionEnds}
use Rattle.eqn_cuts.specs.CutLaws.{between, boundary_first, none_behind, alike, Passes, Stops, turn_boundary, turn, level_grows}
use Rattle.eqn_grammar.specs.SplitLaws.{in_front}
use Rattle.eqn_cuts.proofs.expression_end.Invariants.{Going}
use Rattle.eqn_cuts.proofs.expression_end.Goals as goal

-- ---- one token
module _ (n : ℕ) (ended : Bool) (t : Token) (us : List Token) where
  first_stops : (ended && begins_operand t) ≡ true → first_from n ended (t ∷ us) ≡ ([], t ∷ us)
  unfolding first_from
  first_stops e = rw (e, first_from)

  first_goes : (front : List Token) → (ended && begins_operand t) ≡ false →
      in_front front (first_from n ended (t ∷ us)) ≡ in_front (front ++ (t ∷ [])) (first_from (level_after n t) (ended_after n t) us)
  unfolding first_from
  first_goes front e = rw (e, first_from, append_assoc)

-- ---- the loop
going_first : (s : List ℕ) {from : ℕ} → from ≤ length s → Going s from from 0 false
unfolding tokens_from
going_first s {from} l =
    record { boundary = boundary_first s l; low = omega arith; begun = λ e. absurd (false≢true e); tight = λ m. absurd (omega arith); so_far = rw sub_self }

module _ {s : List ℕ} {from at level : ℕ} {ended : Bool} (g : Going s from at level ended) where
  stopped : ((t : Token) (ts : List Token) → tokens_in (drop from s) ≡ t ∷ ts → from < at) →
      first_from level ended (tokens_in (drop at s)) ≡ ([], tokens_in (drop at s)) → (tokens_in (drop at s) ≡ [] → at ≡ length s) →
      ((t : Token) (ts : List Token) → tokens_in (drop at s) ≡ t ∷ ts → EndsToken s at) → ExpressionEnds s from at
  stopped onward e all tight =
      let front = tokens_in (between s from at) in
      record {
        behind = g.boundary.behind;
        within = g.boundary.within;
        onward = onward;
        parts = g.so_far ∙ ap (in_front front) e ∙ ap (λ (ts : List Token). (ts, tokens_in (drop at s))) (append-nil front);
        all = all;
        tight = tight;
      }

  stopped_end : length s ≤ at → ExpressionEnds s from at
  unfolding first_from
  stopped_end l =
      stopped onward (rw (none_behind s l)) (λ e. omega (arith, g.boundary.within))
      (λ t ts e. absurd (nil_cons (sym (none_behind s l) ∙ e)))
    where
      onward : (t : Token) (ts : List Token) → tokens_in (drop from s) ≡ t ∷ ts → from < at
      onward t ts e = let inside : length s ≤ from → ⊥ = λ m. nil_cons (sym (none_behind s m) ∙ e) in omega arith

  module _ {t : code.Token} (f : TokenAt s at t) (l : at < length s) where
    stopped_here : (ended && begins_operand (kind_token t.kind)) ≡ true → ExpressionEnds s from at
    unfolding first_from
    stopped_here e =
        let onward = g.begun (both_true {p = ended} e).0 in
        stopped (λ u ts is. onward) (⊎_elim passes (λ p. rw p.rest) (turn g.boundary f l))
        (λ none_left. ⊎_elim (λ p. absurd (nil_cons (sym none_left ∙ p.rest))) (λ p. absurd (no_end p)) (turn g.boundary f l))
        (λ u ts is. g.tight onward l)
      where
        no_end : Stops s from at t → ⊥
        no_end p = false≢true (sym (and-false ended) ∙ rw p.is at e)

        passes : Passes s from at t → first_from level ended (tokens_in (drop at s)) ≡ ([], tokens_in (drop at s))
        passes p =
            let begins = alike begins_operand (λ w. refl) (λ b. refl) t.kind p.bytes in
            rw p.rest (first_stops level ended (kind_as t.kind p.bytes) (tokens_in (drop t.end s)) (rw begins e))

    going_next : (ended && begins_operand (kind_token t.kind)) ≡ false →
        Going s from t.end (level_after level (kind_token t.kind)) (ended_after level (kind_token t.kind))
    unfolding first_from
    going_next e =
        let onward = token_moves f l in
        record {
          boundary = turn_boundary g.boundary f l;
          low = omega (arith, g.low, level_grows level t.kind);
          begun = λ is. omega (arith, g.boundary.behind);
          tight =
              λ m inside.
              let some =
              ⊎_elim (λ p. p.some) (λ p. absurd (omega (arith, token_last f p.is, token_ordered f))) (turn g.boundary f l) in
              record { at = at; token = t; is = f; some = some; ends = refl };
          so_far = g.so_far ∙ ⊎_elim passes (λ p. rw (p.front, p.rest, p.rest_next)) (turn g.boundary f l);
        }
      where
        passes : Passes s from at t →
            in_front (tokens_in (between s from at)) (first_from level ended (tokens_in (drop at s)))
            ≡ in_front (tokens_in (between s from t.end))
            (first_from (level_after level (kind_token t.kind)) (ended_after level (kind_token t.kind)) (tokens_in (drop t.end s)))
        passes p =
            let begins = alike begins_operand (λ w. refl) (λ b. refl) t.kind p.bytes in
            let ends = alike ends_operand (λ w. refl) (λ b. refl) t.kind p.bytes in
            let levels = alike (level_after level) (λ w. refl) (λ b. refl) t.kind p.bytes in
            rw (p.rest, p.front, ← levels, ← ends)
            (first_goes level ended (kind_as t.kind p.bytes) (tokens_in (drop t.end s)) (tokens_in (between s from at)) (rw begins e))

pub loop-at-init : goal.loop-at-init
loop-at-init c = going_first _ c.requires

pub returns-then-ended-begins_operand : goal.returns-then-ended-begins_operand
returns-then-ended-begins_operand c =
    stopped_here c.loop-at.invariant c.token_at-token.ensures c.loop-at-test.true (rw c.begins_operand.ensures at c.if-ended-begins_operand.true)

pub loop-at-smaller : goal.loop-at-smaller
loop-at-smaller c = omega (arith, token_moves c.token_at-token.ensures c.loop-at-test.true)

pub loop-at-preserved : goal.loop-at-preserved
loop-at-preserved c =
    rw (c.level_after-level.ensures, c.ends_operand.ensures)
    (going_next c.loop-at.invariant c.token_at-token.ensures c.loop-at-test.true (rw c.begins_operand.ensures at c.if-ended-begins_operand.false))

pub returns : goal.returns
returns c = stopped_end c.loop-at.invariant c.loop-at-test.false
