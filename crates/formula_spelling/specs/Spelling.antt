-- The bytes that a tree is written in. Nothing in them is free: what the letters, the numbers of classes, limits and bars, the kinds of
-- fields and the lengths of lists are follows from the tree.
--     letters          a mark
--     limits_number, bar_number     a byte of an item; `class_number` of `Heads` is another
--     list_opening      the kind byte and the length of a list
--     spelling         a list; item_spelling, field_spelling    an item and a field
-- That a list that reads to a tree is its spelling is shown in `SpellingLaws`.
-- Assumes nothing.
use Rattle.std.specs.Prelude.{true, false, List, [], ◌∷◌, ◌++◌, ℕ, ◌/◌, ◌%◌, leb}
use Rattle.words.specs.Words.{word_of, four_bytes}
use Rattle.formula.specs.declared.Limits.{Limits}
use Rattle.formula.specs.declared.Limits.TheVariants.{DisplayOnly, Always, Never}
use Rattle.formula.specs.declared.Bar.{Bar}
use Rattle.formula.specs.declared.Bar.TheVariants.{Default, Without}
use Rattle.formula.specs.declared.Delimiter.{Delimiter}
use Rattle.formula.specs.declared.Base.{Base}
use Rattle.formula.specs.declared.Base.TheVariants.{Atom, Over, Under, Root, Fence}
use Rattle.formula.specs.declared.Kind.{Kind}
use Rattle.formula.specs.declared.Kind.TheVariants.{Scripted, Fraction}
use Rattle.formula.specs.declared.Mark.{Mark}
use Rattle.formula.specs.declared.Mark.TheVariants.{AT, OV, UN, FR, KN, ST, C4, RD, FE, Unknown}
use Rattle.formula.specs.Tree.{Items, Item, Field, nil, cons, noad, kern, restyle, choice, empty, symbol, list, empty_kind, symbol_kind, list_kind, long_list_kind, greatest_short, items_bytes}
use Rattle.formula.specs.Heads.{class_number}

-- ---- an item's opening

abbrev pub letters : Mark → List ℕ
letters AT = 65 ∷ 84 ∷ []
letters OV = 79 ∷ 86 ∷ []
letters UN = 85 ∷ 78 ∷ []
letters FR = 70 ∷ 82 ∷ []
letters KN = 75 ∷ 78 ∷ []
letters ST = 83 ∷ 84 ∷ []
letters C4 = 67 ∷ 52 ∷ []
letters RD = 82 ∷ 68 ∷ []
letters FE = 70 ∷ 69 ∷ []
letters Unknown = []

abbrev pub limits_number : Limits → ℕ
limits_number DisplayOnly = 0
limits_number Always = 1
limits_number Never = 2

abbrev pub bar_number : Bar → ℕ
bar_number Default = 0
bar_number Without = 1

-- what stands behind a delimiter's four bytes goes along
abbrev pub delimiter_before : Delimiter → List ℕ → List ℕ
delimiter_before d r = d.small.family ∷ d.small.code ∷ d.large.family ∷ d.large.code ∷ r

abbrev pub base_spelling : Base → List ℕ
base_spelling (Atom class limits) = letters AT ++ (class_number class ∷ limits_number limits ∷ [])
base_spelling Over = letters OV
base_spelling Under = letters UN
base_spelling (Root sign) = letters RD ++ delimiter_before sign []
base_spelling (Fence left right) = letters FE ++ delimiter_before left (delimiter_before right [])

abbrev pub kind_spelling : Kind → List ℕ
kind_spelling (Scripted base) = base_spelling base
kind_spelling (Fraction bar) = letters FR ++ (bar_number bar ∷ [])

-- ---- fields, items, lists

-- of n bytes of items; four bytes of length are for the lengths that two do not hold
unfoldable pub list_opening : ℕ → List ℕ
list_opening n = elim (leb n greatest_short) [ true ↦ list_kind ∷ n % 256 ∷ n / 256 ∷ [] | false ↦ long_list_kind ∷ four_bytes n ]

-- a list with its items' spelling
abbrev pub opened : Items → List ℕ → List ℕ
opened l s = list_opening (items_bytes l) ++ s

-- a fraction has no third field
abbrev pub third_spelling : Kind → List ℕ → List ℕ
third_spelling (Scripted base) s = s
third_spelling (Fraction bar) s = []

unfoldable mutual
  pub spelling : Items → List ℕ
  spelling nil = []
  spelling (cons i r) = item_spelling i ++ spelling r

  pub item_spelling : Item → List ℕ
  item_spelling (noad kind x y z) =
      kind_spelling kind ++ (field_spelling x ++ (field_spelling y ++ third_spelling kind (field_spelling z)))
  item_spelling (kern n) = letters KN ++ four_bytes (word_of n)
  item_spelling (restyle n) = letters ST ++ (n ∷ [])
  item_spelling (choice d t sc ss) =
      letters C4 ++ (opened d (spelling d) ++ (opened t (spelling t) ++ (opened sc (spelling sc) ++ opened ss (spelling ss))))

  pub field_spelling : Field → List ℕ
  field_spelling empty = empty_kind ∷ []
  field_spelling (symbol family code) = symbol_kind ∷ family ∷ code ∷ []
  field_spelling (list l) = opened l (spelling l)
