-- Laws of tests.
--     by_test                 what holds whichever way a test goes
--     either                  what holds of both ways of a choice by a test holds of the choice
--     both_true, true_both    two tests together; `both_false` where neither holds
--     same_truth              two tests, each of which holds where the other does, are the same
-- Assumes nothing.
use Rattle.std.specs.Prelude.{◌≡◌, refl, Bool, true, false, ◌&&◌, ◌||◌}
use Rattle.std.proofs.Common.{sym, true≢false}
use Rattle.std.proofs.Math.Bool.{and-eq-true_iff}

pub by_test : {A : Type 0} (t : Bool) → (t ≡ true → A) → (t ≡ false → A) → A
by_test true holds fails = holds refl
by_test false holds fails = fails refl

pub either : {A : Type 0} (P : A → Type 0) (t : Bool) {a b : A} → (t ≡ true → P a) → (t ≡ false → P b) →
    P (elim t [ true ↦ a | false ↦ b ])
either P true holds fails = holds refl
either P false holds fails = fails refl

pub both_true : {p q : Bool} → (p && q) ≡ true → (p ≡ true) × (q ≡ true)
both_true {p} {q} t = (and-eq-true_iff p q).0 t

pub true_both : {p q : Bool} → p ≡ true → q ≡ true → (p && q) ≡ true
true_both {p} {q} s t = (and-eq-true_iff p q).1 (s, t)

pub both_false : {p q : Bool} → (p || q) ≡ false → (p ≡ false) × (q ≡ false)
both_false {p = true} t = absurd (true≢false t)
both_false {p = false} t = (refl, t)

pub same_truth : (p q : Bool) → (p ≡ true → q ≡ true) → (q ≡ true → p ≡ true) → p ≡ q
same_truth true q f g = sym (f refl)
same_truth false true f g = g refl
same_truth false false f g = refl
