-- `kern_opening` meets its contract: of four bytes or more it is what `kern` says of their number.
-- Assumes nothing.
use mathlib.Core.Path.{◌≡◌, refl, sym, ap, ◌∙◌}
use mathlib.Core.List.{List, [], ◌∷◌}
use Prim.Native.Nat.{ℕ, ◌≤◌}
use native.Mathlib.Omega.{arith}
use lib.ListN.{length}
use Rattle.words.specs.Words.{little_endian, signed_word}
use Rattle.formula.specs.declared.Opening.TheVariants.{NoItem}
use Rattle.formula.specs.Heads.{kern_within, kern_opening}
use Rattle.formula.specs.FirstBytes.{short_four}
use Rattle.formula_numbers.proofs.kern_opening.Goals as goal

kern_said : (s : List ℕ) → 4 ≤ length s → kern_opening s ≡ kern_within (signed_word (little_endian 4 s))
unfolding kern_opening
kern_said [] h = absurd (omega arith)
kern_said (a ∷ []) h = absurd (omega arith)
kern_said (a ∷ b ∷ []) h = absurd (omega arith)
kern_said (a ∷ b ∷ c ∷ []) h = absurd (omega arith)
kern_said (a ∷ b ∷ c ∷ d ∷ s) h = refl

pub returns-then-s-lt4 : goal.returns-then-s-lt4
unfolding kern_opening
returns-then-s-lt4 c =
    let s = c.args.s.now in
    sym (short_four kern_opening NoItem refl (λ a. refl) (λ a b. refl) (λ a b d. refl) s c.if-s-lt4.true)

pub returns-else-s-lt4 : goal.returns-else-s-lt4
returns-else-s-lt4 c =
    c.kern.ensures
    ∙ ap kern_within (c.signed.ensures ∙ ap signed_word c.word.ensures)
    ∙ sym (kern_said _ (omega arith))
