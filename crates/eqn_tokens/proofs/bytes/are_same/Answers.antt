-- `are_same` meets its contract: runs whose last bytes differ are not equal (`last_alike`), and of the others `==` and `same` both test
-- whether they are.
-- Assumes nothing.
use Rattle.std.specs.Option.{option_eq, option_copied}
use Rattle.std.specs.Prelude.{Option, Some, None, slice_get, eqb}
use Rattle.std.specs.Borrow.{Bor}
use Rattle.std.specs.Bool.{Decides}
use Rattle.std.proofs.Common.{◌≡◌, ◌-◌, refl, sym, ap, ◌∙◌, arith, eq-eqb, ℕ, true, List, length}
use Rattle.std.proofs.lemmas.Bool.{false≢true}
use Rattle.std.proofs.lemmas.Bool.Decides.{Decides-eqb}
use Rattle.std.proofs.lemmas.Slice.Eq.{slice_eq-Decides}
use Rattle.laws.specs.Truths.{same_truth}
use Rattle.eqn_tokens.specs.BytesLaws.{same_own, same_is, same_not}
use Rattle.eqn_tokens.proofs.bytes.are_same.Goals as goal

last_alike : (x y : Option (Bor ℕ)) → option_copied x ≡ option_copied y → option_eq (λ (p q : Bor ℕ). eqb p.now q.now) x y ≡ true
last_alike None None is = refl
last_alike None (Some q) is = let z : ◌≡◌ {A = ℕ} 0 1 = cc in absurd (omega arith)
last_alike (Some p) None is = let z : ◌≡◌ {A = ℕ} 0 1 = cc in absurd (omega arith)
last_alike (Some p) (Some q) is = let same : p.now ≡ q.now = cc in eq-eqb p.now q.now same

pub returns-then-eq : goal.returns-then-eq
returns-then-eq c =
    let a = c.args.a.now in
    let b = c.args.b.now in
    let tests : Decides c.eq-then-eq.result (a ≡ b) = slice_eq-Decides Decides-eqb a b c.eq-then-eq.result c.eq-then-eq.ensures in
    same_truth _ _ (λ t. rw (tests.0 t) (same_own b)) (λ t. tests.1 (same_is a b t))

pub returns-else-eq : goal.returns-else-eq
returns-else-eq c =
    let a = c.args.a.now in
    let b = c.args.b.now in
    let lasts : a ≡ b → option_copied c.last.result ≡ option_copied c.last-2.result =
    λ e. c.last.ensures.value ∙ ap (λ (s : List ℕ). slice_get s (length s - 1)) e ∙ sym c.last-2.ensures.value in
    let differ : a ≡ b → ⊥ =
    λ e. false≢true (sym c.if-eq.false ∙ c.eq.ensures ∙ last_alike c.last.result c.last-2.result (lasts e)) in
    c.if-eq.false ∙ sym (same_not a b differ)
