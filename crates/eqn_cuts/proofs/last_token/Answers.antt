-- `last_token` meets its contract. The loop's invariant: the tokens before the last one found are those passed, without the last of them.
-- Assumes nothing.
use mathlib.Core.Path.{◌≡◌, refl, sym, ap, ◌∙◌}
use mathlib.Core.List.{List, [], ◌∷◌, ◌++◌, append-nil, drop_last}
use mathlib.Core.Logic.{inl, inr, ⊎_elim}
use Prim.Native.Nat.{ℕ, ◌<◌}
use native.Mathlib.Nat.{sub-zero}
use native.Mathlib.Omega.{arith}
use lib.ListN.{length, take, drop, length-append}
use Rattle.eqn_tokens.specs.declared.tokens.TokenKind.TheVariants.{End}
use Rattle.eqn_tokens.specs.declared.tokens.Token as code
use Rattle.eqn_tokens.specs.Values.{TokenAt}
use Rattle.eqn_tokens.specs.PlacesLaws.{nil_cons, token_separators, token_moves}
use Rattle.eqn_tokens.specs.Tokens.{Token, tokens_from, tokens_in}
use Rattle.eqn_cuts.specs.Values.{LastStarts}
use Rattle.eqn_cuts.specs.CutLaws.{between, boundary_first, boundary_tokens, none_behind, taken_tokens, start_place, turn_boundary, turn}
use Rattle.eqn_cuts.proofs.last_token.Invariants.{LastBefore}
use Rattle.eqn_cuts.proofs.last_token.Goals as goal

drop_last_one : (ts : List Token) (t : Token) → drop_last (ts ++ (t ∷ [])) ≡ ts
drop_last_one [] t = refl
drop_last_one (u ∷ []) t = refl
drop_last_one (u ∷ v ∷ ts) t = ap (λ (us : List Token). u ∷ us) (drop_last_one (v ∷ ts) t)

last_first : (s : List ℕ) → LastBefore s 0 0
unfolding tokens_from
last_first s = record { boundary = boundary_first s (omega arith); within = omega arith; before = refl; found = inl (refl, refl) }

last_next : {s : List ℕ} {at last : ℕ} {t : code.Token} → LastBefore s at last → TokenAt s at t → at < length s → (t.kind ≡ End → ⊥) →
    LastBefore s t.end t.start
last_next {s} {at} {last} {t} b f l no_end =
    record {
      boundary = turn_boundary b.boundary f l;
      within = (token_separators f).within;
      before =
          ⊎_elim
          (λ p.
          ap drop_last p.front ∙ drop_last_one (tokens_in (between s 0 at)) _
          ∙ ap tokens_in (ap (λ (n : ℕ). take n s) (sub-zero at))
          ∙ sym (taken_tokens (token_separators f)))
          (λ p. absurd (no_end p.is))
          (turn b.boundary f l);
      found =
          inr (
            λ e.
                ⊎_elim (λ p. absurd (omega (arith, simp length-append at (ap length (sym p.front ∙ e))))) (λ p. no_end p.is) (turn b.boundary f l),
            start_place b.boundary f,
          );
    }

last_ended : {s : List ℕ} {at last : ℕ} → LastBefore s at last → tokens_in (drop at s) ≡ [] → LastStarts s last
last_ended {s} {at} {last} b e =
    let all : tokens_in s ≡ tokens_in (between s 0 at) = boundary_tokens b.boundary ∙ rw (e, append-nil) in
    record {
      within = b.within;
      before = λ t ts is. sym b.before ∙ ap drop_last (sym all ∙ is) ∙ drop_last_one ts t;
      first = λ t ts is. ⊎_elim (λ n. absurd (nil_cons (sym n.0 ∙ sym all ∙ is))) (λ y. y.1) b.found;
      none_is = λ is. ⊎_elim (λ n. n.1) (λ y. absurd (y.0 (sym all ∙ is))) b.found;
    }

pub loop-at-init : goal.loop-at-init
loop-at-init c = last_first _

pub loop-at-smaller : goal.loop-at-smaller
loop-at-smaller c = omega (arith, token_moves c.token_at-token.ensures c.loop-at-test.true)

pub loop-at-preserved : goal.loop-at-preserved
loop-at-preserved c =
    let some : c.token_at-token.result.kind ≡ End → ⊥ = grind arith in
    last_next c.loop-at.invariant c.token_at-token.ensures c.loop-at-test.true some

pub returns-then-eq : goal.returns-then-eq
returns-then-eq c =
    let is : c.token_at-token.result.kind ≡ End = grind arith in
    last_ended c.loop-at.invariant (rw is at c.token_at-token.ensures.tokens)

pub returns : goal.returns
returns c = last_ended c.loop-at.invariant (none_behind _ c.loop-at-test.false)
