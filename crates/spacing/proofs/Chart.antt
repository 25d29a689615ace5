-- The chart of spaces as a table of numbers: one test over all pairs of classes, `right`, which antt computes, and the law that
-- turns it into the rule at each pair, `right_entry`.
-- Assumes nothing.
use mathlib.Core.Bool.{Bool, true, false, ◌&&◌}
use mathlib.Core.List.{List, [], ◌∷◌}
use mathlib.Core.Path.{◌≡◌, refl}
use Prim.Native.Nat.{ℕ, zero, suc, ◌/◌, ◌%◌}
use lib.Dec.{T, eqb, ltb, eqb→eq, ltb→lt}
use lib.ListN.{get_or}
use Rattle.formula.specs.declared.Class.{Class}
use Rattle.formula.specs.declared.Class.TheVariants.{Ord, Op, Bin, Rel, Open, Close, Punct, Inner}
use Rattle.formula.specs.Heads.{classes, class_number}
use Rattle.spacing.specs.Spacing.{Entry, chart, units}
use Rattle.spacing.specs.Values.{Digits}

abbrev every : (Class → Bool) → List Class → Bool
every f [] = true
every f (class ∷ l) = f class && every f l

split : (a b : Bool) → T (a && b) → T a × T b
split true b t = (tt, t)
split false b t = absurd t

-- what passes at every class of a list passes at the k-th of them, or there is none
at : (f : Class → Bool) (l : List Class) → T (every f l) → T (f Ord) → (k : ℕ) → T (f (get_or l k Ord))
at f [] t o k = o
at f (class ∷ l) t o zero = (split (f class) (every f l) t).0
at f (class ∷ l) t o (suc k) = at f l (split (f class) (every f l) t).1 o k

at_number : (class : Class) → get_or classes (class_number class) Ord ≡ class
at_number Ord = refl
at_number Op = refl
at_number Bin = refl
at_number Rel = refl
at_number Open = refl
at_number Close = refl
at_number Punct = refl
at_number Inner = refl

at_each : (f : Class → Bool) → T (every f classes) → (class : Class) → T (f class)
at_each f t class =
    rw at_number at (at f classes t (split (f Ord) _ t).0 (class_number class))

abbrev are_digits : ℕ → Entry → Bool
are_digits x e = eqb (x / 10) (units true e) && (eqb (x % 10) (units false e) && ltb x 60)

digits : (x : ℕ) (e : Entry) → T (are_digits x e) → Digits x e
digits x e t =
    let s = split (eqb (x / 10) (units true e)) _ t in
    let u = split (eqb (x % 10) (units false e)) (ltb x 60) s.1 in
    record { tens = eqb→eq _ _ s.0; ones = eqb→eq _ _ u.0; small = ltb→lt _ _ u.1 }

-- the table has the chart's digits at each pair of classes
abbrev right_at : List (List ℕ) → Class → Class → Bool
right_at table left right = are_digits (get_or (get_or table (class_number left) []) (class_number right) 0) (chart left right)

abbrev pub right : List (List ℕ) → Bool
right table = every (λ (left : Class). every (right_at table left) classes) classes

pub right_entry : (table : List (List ℕ)) → T (right table) → (left right : Class) →
    Digits (get_or (get_or table (class_number left) []) (class_number right) 0) (chart left right)
right_entry table t l r =
    digits _ _ (at_each (right_at table l) (at_each (λ (l : Class). every (right_at table l) classes) t l) r)
