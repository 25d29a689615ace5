-- `style_of` meets its contract: the list of styles has each level twice, and nothing past its eight styles.
-- Assumes nothing.
use Rattle.std.proofs.Common.{◌≡◌, refl, subst, arith, ℕ, zero, suc, ◌+◌, ◌*◌, ◌/◌, ◌%◌, ◌<◌, ◌≤◌, Bool, true, false, nat_eq, List, [], ◌∷◌, length}
use Rattle.std.proofs.Math.Option.{some, none}
use Rattle.std.proofs.Math.ListN.{get_elem?}
use Rattle.boxes.specs.declared.styles.Style.{Style}
use Rattle.boxes.specs.declared.styles.Level.{Level}
use Rattle.boxes.specs.declared.styles.Level.TheVariants.{Display, Text, Script, Scriptscript}
use Rattle.boxes.specs.Styles.{styles, style_of}
use Rattle.boxes.proofs.styles.style_of.Goals as goal
use Rattle.boxes.proofs.styles.style_of.Goals.{in-0, in-1, in-2, in-3}

-- past its end a list has nothing
past : (l : List Style) (i : ℕ) → length l ≤ i → none ≡ get_elem? l i
past [] i h = refl
past (s ∷ l) zero h = absurd (omega arith)
past (s ∷ l) (suc i) h = past l i (omega arith)

abbrev StyleAt : Level → ℕ → Bool → Type 0
StyleAt level n cramped = some (record { level = level; cramped = cramped }) ≡ style_of n

-- what holds of both numbers with a half holds of each
by_half : (level : Level) (n k : ℕ) → n / 2 ≡ k → StyleAt level (2 * k) false → StyleAt level (2 * k + 1) true →
    StyleAt level n (nat_eq (n % 2) 1)
by_half level n k half even odd = go (n % 2) (omega arith) (omega arith)
  where
    go : (r : ℕ) → n ≡ 2 * k + r → r < 2 → StyleAt level n (nat_eq r 1)
    go zero e h = subst (λ m. StyleAt level m false) (omega arith) even
    go (suc zero) e h = subst (λ m. StyleAt level m true) (omega arith) odd
    go (suc (suc r)) e h = absurd (omega arith)

pub returns-in_default : goal.returns-in_default
unfolding style_of
returns-in_default c = past styles c.args.number (omega arith)

pub returns : goal.returns
unfolding style_of
returns c =
    let n = c.args.number in
    elim c.match-number-div2.branch [
      | in-0 w ↦ rw w.level-is (by_half Display n 0 w.in-0.is refl refl)
      | in-1 w ↦ rw w.level-is (by_half Text n 1 w.in-1.is refl refl)
      | in-2 w ↦ rw w.level-is (by_half Script n 2 w.in-2.is refl refl)
      | in-3 w ↦ rw w.level-is (by_half Scriptscript n 3 w.in-3.is refl refl)
    ]
