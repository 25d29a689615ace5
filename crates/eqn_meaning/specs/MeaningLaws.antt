-- Laws of the meaning of a word and of a group.
--     class_own        the number of the class that a number stands for is that number
--     primary_there    a word or a group is there
-- Assumes nothing.
use Rattle.std.specs.Prelude.{◌≡◌, refl, Bool, true, false, ◌&&◌, List, [], ◌∷◌, ℕ, zero, suc, ◌+◌, ◌≤◌, ◌<◌, eqb, length, get_or}
use Rattle.std.proofs.Common.{arith, eqb-true}
use Rattle.laws.specs.Truths.{both_true}
use Rattle.formula.specs.declared.Class.{Class}
use Rattle.formula.specs.declared.Class.TheVariants.{Ord}
use Rattle.formula.specs.Heads.{classes, class_number, greatest_class}
use Rattle.eqn_names.specs.Names.{Name}
use Rattle.eqn_grammar.specs.Grammar.{Primary, named, braced}
use Rattle.eqn_meaning.specs.Meaning.{class_of, is_absent, primary_nucleus}

abbrev are_numbered : ℕ → List Class → Bool
are_numbered k [] = true
are_numbered k (class ∷ l) = eqb (class_number class) k && are_numbered (suc k) l

number_at : (k : ℕ) (l : List Class) → are_numbered k l ≡ true → (n : ℕ) → n < length l → class_number (get_or l n Ord) ≡ k + n
number_at k [] t n h = absurd (omega arith)
number_at k (class ∷ l) t zero h = omega (arith, eqb-true (class_number class) k (both_true t).0)
number_at k (class ∷ l) t (suc n) h =
    omega (arith, number_at (suc k) l (both_true {p = eqb (class_number class) k} t).1 n (omega arith))

pub class_own : (n : ℕ) → n ≤ greatest_class → class_number (class_of n) ≡ n
class_own n h = omega (arith, number_at 0 classes refl n (omega arith))

pub primary_there : (ns : List Name) (p : Primary) → is_absent (primary_nucleus ns p).field ≡ false
unfolding primary_nucleus
primary_there ns (named w) = refl
primary_there ns (braced r) = refl
