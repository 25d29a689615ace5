-- `kern` meets its contract: what the two tests say of the parts of the number.
-- Assumes nothing.
use mathlib.Core.Path.{◌≡◌, sym, ◌∙◌}
use mathlib.Core.Bool.{true, false}
use Prim.Native.Nat.{ℕ, suc, ◌+◌, ◌≤◌, ◌<◌}
use native.Mathlib.Omega.{arith}
use lib.IntN.{ℤ, pos, negsuc}
use borrow.Author.Tests.{le-leb, lt-leb}
use Rattle.scaled.specs.Signed.{above, below}
use Rattle.formula.specs.declared.Opening.TheVariants.{NoItem, Kern}
use Rattle.formula.specs.Heads.{greatest_kern, kern_within}
use Rattle.formula_numbers.proofs.kern.Goals as goal
use Rattle.formula_numbers.proofs.kern.Goals.{then-less, else-less}

-- in its range, and past it on either side
kern_in : (n : ℤ) → above n ≤ below n + greatest_kern → below n ≤ above n + greatest_kern →
    kern_within n ≡ Kern (record { 0 = n })
unfolding kern_within
kern_in (pos m) h k = simp (kern_within, le-leb m greatest_kern (omega arith))
kern_in (negsuc m) h k = simp (kern_within, le-leb (suc m) greatest_kern (omega arith))

kern_over : (n : ℤ) → below n + greatest_kern < above n → kern_within n ≡ NoItem
unfolding kern_within
kern_over (pos m) h = simp (kern_within, lt-leb m greatest_kern (omega arith))
kern_over (negsuc m) h = absurd (omega arith)

kern_under : (n : ℤ) → above n + greatest_kern < below n → kern_within n ≡ NoItem
unfolding kern_within
kern_under (pos m) h = absurd (omega arith)
kern_under (negsuc m) h = simp (kern_within, lt-leb (suc m) greatest_kern (omega arith))

pub returns-then-less-2 : goal.returns-then-less-2
returns-then-less-2 c =
    let n = c.args.n.0 in
    sym (elim c.if-less.branch [
      | then-less w ↦ kern_under n (omega (arith, c.less.ensures.yes w.if-less.true))
      | else-less w ↦ kern_over n (omega (arith, w.less-else-less.ensures.yes (sym w.value-is ∙ c.if-less-2.true)))
    ])

pub returns-else-less-2 : goal.returns-else-less-2
returns-else-less-2 c =
    let n = c.args.n.0 in
    elim c.if-less.branch [
      | then-less w ↦ let z : ◌≡◌ {A = ℕ} 0 1 = (let no : true ≡ false = sym w.if-less.true ∙ sym w.value-is ∙ c.if-less-2.false in cc) in absurd (omega arith)
      | else-less w ↦
          let not-under = c.less.ensures.no w.if-less.false in
          let not-over = w.less-else-less.ensures.no (sym w.value-is ∙ c.if-less-2.false) in
          sym (kern_in n (omega arith) (omega arith))
    ]
