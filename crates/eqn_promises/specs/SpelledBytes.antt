-- The spelling of a plain tree is of bytes.
--     class_number_lem, limits_number_lem, bar_number_lem     the number of each, where it stands in its table, is a byte
--     spelling_bytes      the spelling of a plain list is of bytes
-- It goes along the tree, a part as the parts that its spelling is joined of.
-- Assumes nothing.
use Rattle.std.specs.Prelude.{◌≡◌, refl, List, [], ◌∷◌, ◌++◌, ℕ, zero, suc, ◌<◌, leb}
use Rattle.std.proofs.Math.Option.{some}
use Rattle.std.proofs.Common.{arith, leb-true}
use Rattle.std.proofs.Math.ListN.{get_elem?}
use Rattle.laws.specs.Truths.{either}
use Rattle.words.specs.Words.{four_bytes}
use Rattle.words.specs.WordLaws.{Bytes}
use Rattle.formula.specs.declared.Class.{Class}
use Rattle.formula.specs.declared.Class.TheVariants.{Ord, Op, Bin, Rel, Open, Close, Punct, Inner}
use Rattle.formula.specs.declared.Limits.{Limits}
use Rattle.formula.specs.declared.Limits.TheVariants.{DisplayOnly, Always, Never}
use Rattle.formula.specs.declared.Bar.{Bar}
use Rattle.formula.specs.declared.Bar.TheVariants.{Default, Without}
use Rattle.formula.specs.declared.Base.TheVariants.{Atom, Over, Under, Root, Fence}
use Rattle.formula.specs.declared.Kind.{Kind}
use Rattle.formula.specs.declared.Kind.TheVariants.{Scripted, Fraction}
use Rattle.formula.specs.Tree.{Items, Item, Field, nil, cons, noad, kern, restyle, choice, empty, symbol, list, greatest_short, items_bytes}
use Rattle.formula.specs.Heads.{classes, limit_kinds, bars, class_number}
use Rattle.formula_spelling.specs.Spelling.{limits_number, bar_number, kind_spelling, list_opening, third_spelling, spelling, item_spelling, field_spelling}
use Rattle.eqn_promises.specs.Plain.{PlainKind, Plain, PlainItem, PlainField}

AllBytes : List ℕ → Type 0
AllBytes [] = Unit {0}
AllBytes (b ∷ s) = (b < 256) × AllBytes s

all_append : (s t : List ℕ) → AllBytes s → AllBytes t → AllBytes (s ++ t)
unfolding AllBytes
all_append [] t p q = q
all_append (b ∷ s) t p q = (p.0, all_append s t p.1 q)

all_bytes : (s : List ℕ) → AllBytes s → Bytes s
unfolding AllBytes
all_bytes [] p i = omega arith
all_bytes (b ∷ s) p zero = omega arith
all_bytes (b ∷ s) p (suc i) = all_bytes s p.1 i

pub class_number_lem : (class : Class) → (get_elem? classes (class_number class) ≡ some class) × (class_number class < 256)
class_number_lem Ord = (refl, omega arith)
class_number_lem Op = (refl, omega arith)
class_number_lem Bin = (refl, omega arith)
class_number_lem Rel = (refl, omega arith)
class_number_lem Open = (refl, omega arith)
class_number_lem Close = (refl, omega arith)
class_number_lem Punct = (refl, omega arith)
class_number_lem Inner = (refl, omega arith)

pub limits_number_lem : (limits : Limits) → (get_elem? limit_kinds (limits_number limits) ≡ some limits) × (limits_number limits < 256)
limits_number_lem DisplayOnly = (refl, omega arith)
limits_number_lem Always = (refl, omega arith)
limits_number_lem Never = (refl, omega arith)

pub bar_number_lem : (bar : Bar) → (get_elem? bars (bar_number bar) ≡ some bar) × (bar_number bar < 256)
bar_number_lem Default = (refl, omega arith)
bar_number_lem Without = (refl, omega arith)

kind_bytes : (kind : Kind) (z : Field) → PlainKind kind z → AllBytes (kind_spelling kind)
unfolding AllBytes
kind_bytes (Scripted (Atom class limits)) z h = omega (arith, (class_number_lem class).1, (limits_number_lem limits).1)
kind_bytes (Scripted Over) z h = absurd h
kind_bytes (Scripted Under) z h = absurd h
kind_bytes (Scripted (Root sign)) z h = absurd h
kind_bytes (Scripted (Fence left right)) z h = absurd h
kind_bytes (Fraction bar) z h = omega (arith, (bar_number_lem bar).1)

third_bytes_lem : (kind : Kind) (s : List ℕ) → AllBytes s → AllBytes (third_spelling kind s)
unfolding AllBytes
third_bytes_lem (Scripted base) s h = h
third_bytes_lem (Fraction bar) s h = tt

opening_bytes_lem : (n : ℕ) → AllBytes (list_opening n)
unfolding list_opening four_bytes AllBytes
opening_bytes_lem n = either AllBytes (leb n greatest_short) (λ e. omega (arith, leb-true n greatest_short e)) (λ e. omega arith)

mutual
  unfolding spelling Plain AllBytes

  items_bytes_lem : (l : Items) → Plain l → AllBytes (spelling l)
  items_bytes_lem nil h = tt
  items_bytes_lem (cons i r) h = all_append (item_spelling i) (spelling r) (item_bytes_lem i h.0) (items_bytes_lem r h.1)

  item_bytes_lem : (i : Item) → PlainItem i → AllBytes (item_spelling i)
  item_bytes_lem (noad kind x y z) h =
      all_append (kind_spelling kind) _ (kind_bytes kind z h.0)
      (all_append (field_spelling x) _ (field_bytes_lem x h.1)
      (all_append (field_spelling y) _ (field_bytes_lem y h.2) (third_bytes_lem kind (field_spelling z) (field_bytes_lem z h.3))))
  item_bytes_lem (kern n) h = absurd h
  item_bytes_lem (restyle n) h = absurd h
  item_bytes_lem (choice d t sc ss) h = absurd h

  field_bytes_lem : (f : Field) → PlainField f → AllBytes (field_spelling f)
  field_bytes_lem empty h = omega arith
  field_bytes_lem (symbol family code) h = omega arith
  field_bytes_lem (list l) h = all_append (list_opening (items_bytes l)) (spelling l) (opening_bytes_lem (items_bytes l)) (items_bytes_lem l h)

pub spelling_bytes : (l : Items) → Plain l → Bytes (spelling l)
spelling_bytes l h = all_bytes (spelling l) (items_bytes_lem l h)
