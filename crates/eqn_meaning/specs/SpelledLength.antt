-- How many bytes a tree is spelled in.
--     spelling_length     a list is spelled in as many bytes as `items_bytes` says; `item_length`, `field_length` an item and a field
-- It goes along the tree, a part as the parts that its spelling is joined of.
-- Assumes nothing.
use Rattle.std.specs.Prelude.{◌≡◌, refl, Bool, true, false, List, [], ◌∷◌, ℕ, ◌/◌, ◌%◌, leb, length}
use Rattle.std.proofs.Common.{arith, length-append}
use Rattle.words.specs.Words.{four_bytes}
use Rattle.formula.specs.declared.Base.TheVariants.{Atom, Over, Under, Root, Fence}
use Rattle.formula.specs.declared.Kind.{Kind}
use Rattle.formula.specs.declared.Kind.TheVariants.{Scripted, Fraction}
use Rattle.formula.specs.Tree.{Items, Item, Field, nil, cons, noad, kern, restyle, choice, empty, symbol, list, opening_bytes, greatest_short, short_opening_bytes, long_opening_bytes, list_opening_bytes, third_bytes, items_bytes, item_bytes, field_bytes}
use Rattle.formula_spelling.specs.Spelling.{kind_spelling, list_opening, third_spelling, spelling, item_spelling, field_spelling}

pub opening_length : (n : ℕ) → length (list_opening n) ≡ list_opening_bytes n
unfolding list_opening list_opening_bytes four_bytes
opening_length n = go (leb n greatest_short)
  where
    go : (t : Bool) →
        length {A = ℕ} (elim t [ true ↦ 2 ∷ n % 256 ∷ n / 256 ∷ [] | false ↦ 3 ∷ four_bytes n ])
        ≡ elim t [ true ↦ short_opening_bytes | false ↦ long_opening_bytes ]
    go true = refl
    go false = refl

pub kind_length : (kind : Kind) → length (kind_spelling kind) ≡ opening_bytes kind
kind_length (Scripted (Atom class limits)) = refl
kind_length (Scripted Over) = refl
kind_length (Scripted Under) = refl
kind_length (Scripted (Root sign)) = refl
kind_length (Scripted (Fence left right)) = refl
kind_length (Fraction bar) = refl

third_length : (kind : Kind) (s : List ℕ) → length (third_spelling kind s) ≡ third_bytes kind (length s)
third_length (Scripted base) s = refl
third_length (Fraction bar) s = refl

mutual
  unfolding spelling items_bytes four_bytes

  pub spelling_length : (l : Items) → length (spelling l) ≡ items_bytes l
  spelling_length nil = refl
  spelling_length (cons i r) = simp (length-append, item_length i, spelling_length r)

  pub item_length : (i : Item) → length (item_spelling i) ≡ item_bytes i
  item_length (noad kind x y z) =
      simp (length-append, kind_length, third_length, field_length x, field_length y, field_length z) (omega arith)
  item_length (kern n) = refl
  item_length (restyle n) = refl
  item_length (choice d t sc ss) =
      simp (length-append, opening_length, spelling_length d, spelling_length t, spelling_length sc, spelling_length ss) (omega arith)

  pub field_length : (f : Field) → length (field_spelling f) ≡ field_bytes f
  field_length empty = refl
  field_length (symbol family code) = refl
  field_length (list l) = simp (length-append, opening_length, spelling_length l)
