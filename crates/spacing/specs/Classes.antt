-- The class of an item and its change (document 01, "Class changes"; rules 5 and 6 of Appendix G, and what follows rule 18).
-- A neighbour is the class of the nearest atom to one side, kerns passed over, or none at a list's end.
-- The classes of the worked examples P3, P5 and P6 are `classes_are`.
-- Assumes nothing.
use Rattle.std.specs.Prelude.{◌≡◌, refl, Bool, true, false, ◌||◌, List, [], ◌∷◌}
use Rattle.std.proofs.Math.Option.{Option, none, some}
use Rattle.formula.specs.declared.Class.{Class}
use Rattle.formula.specs.declared.Class.TheVariants.{Ord, Op, Bin, Rel, Open, Close, Punct, Inner}
use Rattle.formula.specs.declared.Base.{Base}
use Rattle.formula.specs.declared.Base.TheVariants.{Atom, Over, Under, Root, Fence}
use Rattle.formula.specs.declared.Kind.{Kind}
use Rattle.formula.specs.declared.Kind.TheVariants.{Scripted, Fraction}

abbrev pub Neighbour : Type 0
Neighbour = Option Class

-- lines and roots count as Ord (rule 16), fences as Inner (rule 19)
abbrev pub base_class : Base → Class
base_class (Atom class limits) = class
base_class Over = Ord
base_class Under = Ord
base_class (Root sign) = Ord
base_class (Fence left right) = Inner

-- fractions count as Inner (rule 15e)
abbrev pub class_of : Kind → Class
class_of (Scripted base) = base_class base
class_of (Fraction bar) = Inner

-- rule 5: a Bin is no binary operation as the first atom, or behind one of these, after its own change
abbrev pub opens_operand : Neighbour → Bool
opens_operand none = true
opens_operand (some Ord) = false
opens_operand (some Op) = true
opens_operand (some Bin) = true
opens_operand (some Rel) = true
opens_operand (some Open) = true
opens_operand (some Close) = false
opens_operand (some Punct) = true
opens_operand (some Inner) = false

-- rule 6: nor before one of these, nor as the last atom
abbrev pub closes_operand : Neighbour → Bool
closes_operand none = true
closes_operand (some Ord) = false
closes_operand (some Op) = false
closes_operand (some Bin) = false
closes_operand (some Rel) = true
closes_operand (some Open) = false
closes_operand (some Close) = true
closes_operand (some Punct) = true
closes_operand (some Inner) = false

abbrev pub bin_changed : Bool → Class
bin_changed true = Ord
bin_changed false = Bin

-- the class of an atom between the neighbours left, after its change, and right, before it
unfoldable pub changed_class : Neighbour → Class → Neighbour → Class
changed_class left Ord right = Ord
changed_class left Op right = Op
changed_class left Bin right = bin_changed (opens_operand left || closes_operand right)
changed_class left Rel right = Rel
changed_class left Open right = Open
changed_class left Close right = Close
changed_class left Punct right = Punct
changed_class left Inner right = Inner

-- ---- the worked examples

classes : List Class
classes =
    changed_class (some Ord) Bin (some Ord)  -- P3
    ∷ changed_class none Bin (some Ord)  -- P5
    ∷ changed_class (some Ord) Bin (some Rel)  -- P6
    ∷ []

classes_are : classes ≡ Bin ∷ Ord ∷ Ord ∷ []
unfolding classes changed_class
classes_are = refl
