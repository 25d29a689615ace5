-- `first_unknown` meets its contract: the tokens that the loop has passed are known (`Looked`).
-- Assumes nothing.
use mathlib.Core.Path.{◌≡◌, refl, sym, ap, ◌∙◌}
use mathlib.Core.Bool.{true, false, not}
use mathlib.Core.List.{List}
use Prim.Native.Nat.{ℕ}
use native.Mathlib.Omega.{arith}
use Rattle.std.specs.Prelude.{Option, Some, None}
use Rattle.std.proofs.Math.Option.{Option as OptionOf}
use Rattle.eqn_tokens.specs.declared.tokens.TokenKind.{TokenKind}
use Rattle.eqn_tokens.specs.declared.tokens.TokenKind.TheVariants.{Word}
use Rattle.eqn_tokens.specs.PlacesLaws.{word_proper, token_moves}
use Rattle.eqn_tokens.specs.Values.{kind_as}
use Rattle.eqn_names.specs.declared.Symbol.{Symbol}
use Rattle.eqn_names.specs.Names.{Name, named, is_there}
use Rattle.eqn_names.specs.Unknown.{is_unknown}
use Rattle.eqn_names.specs.Values.{found_as}
use Rattle.eqn_names.proofs.KindLaws.{plain}
use Rattle.eqn_names.proofs.UnknownLaws.{looked_next, looked_found, looked_all}
use Rattle.eqn_names.proofs.NameIndex.first_unknown.Goals as goal
use Rattle.eqn_names.proofs.NameIndex.first_unknown.Goals.{else-eq-via-then-eq+else-is_none, else-eq-via-else-eq}

-- a word by what was found for it
word_told : (kind : TokenKind) (found : Option Symbol) (ns : List Name) (w : List ℕ) → kind ≡ Word → found_as w found ≡ named ns w →
    is_unknown ns (kind_as kind w) ≡ not (is_there (found_as w found))
word_told kind found ns w word is = rw word (ap (λ (o : OptionOf Name). not (is_there o)) (sym is))

unknown_none : (w : List ℕ) (v : Option Symbol) → v ≡ None → not (is_there (found_as w v)) ≡ true
unknown_none w None e = refl
unknown_none w (Some symbol) e = absurd (grind (arith, e))

found_there : (w : List ℕ) (v : Option Symbol) → (v ≡ None → ⊥) → not (is_there (found_as w v)) ≡ false
found_there w None e = absurd (e refl)
found_there w (Some symbol) e = refl

pub returns-then-is_none : goal.returns-then-is_none
returns-then-is_none c =
    let word : c.token_at-token.result.kind ≡ Word = grind arith in
    let none : c.find.result ≡ None = grind arith in
    λ ns r.
    looked_found ns _ (c.loop-at.invariant.1 ns r) c.token_at-token.ensures (rw word word_proper)
    (word_told _ _ ns _ word (c.find.ensures ns r) ∙ unknown_none _ _ none)

pub loop-at-smaller : goal.loop-at-smaller
loop-at-smaller c = omega (arith, token_moves c.token_at-token.ensures (omega arith))

pub loop-at-preserved : goal.loop-at-preserved
loop-at-preserved c = (
  c.token_at-token.ensures.within,
  λ ns r.
      looked_next ns _ (c.loop-at.invariant.1 ns r) c.token_at-token.ensures
      (elim c.else-eq.branch [
        | else-eq-via-then-eq+else-is_none w ↦
            let word : c.token_at-token.result.kind ≡ Word = grind (arith, w) in
            let some : w.find.result ≡ None → ⊥ = grind (arith, w) in
            word_told _ _ ns _ word (w.find.ensures ns r) ∙ found_there _ _ some
        | else-eq-via-else-eq w ↦
            let other : c.token_at-token.result.kind ≡ Word → ⊥ = grind (arith, w) in
            (plain c.token_at-token.result.kind other).known ns _
      ]),
)

pub returns : goal.returns
returns c = λ ns r. looked_all ns _ (c.loop-at.invariant.1 ns r) c.loop-at-test.false
