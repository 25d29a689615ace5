-- A formula as a tree (document 01, "Bytes of a formula"), and the number of bytes that each part of it is written in.
-- An item with fields is a noad, TeX's word: it has a kind and three fields, which are nucleus, superscript and
-- subscript, or numerator, denominator and an empty one. The kind of a root (RD) has the delimiter that is its sign, that of a
-- fence (FE) the two on either side of its first field, which is a list. A style change (ST) has the style's number, a choice (C4) four lists.
-- A tree holds no places: each part is written in one way, so that a place follows from the bytes of what stands before it.
-- Assumes nothing.
use Rattle.std.specs.Prelude.{Bool, true, false, ℕ, ◌+◌, leb, ℤ}
use Rattle.formula.specs.declared.Base.{Base}
use Rattle.formula.specs.declared.Base.TheVariants.{Atom, Over, Under, Root, Fence}
use Rattle.formula.specs.declared.Kind.{Kind}
use Rattle.formula.specs.declared.Kind.TheVariants.{Scripted, Fraction}

mutual
  pub data Items : Type 0 where
    nil : Items
    cons : Item → Items → Items

  pub data Item : Type 0 where
    noad : Kind → Field → Field → Field → Item
    kern : ℤ → Item
    restyle : ℕ → Item  -- the style's number
    choice : Items → Items → Items → Items → Item  -- for D, T, S, SS

  pub data Field : Type 0 where
    empty : Field
    symbol : ℕ → ℕ → Field  -- family, code
    list : Items → Field

-- mark and what stands before the fields: class and limits, nothing, the families and codes of delimiters, or the bar
abbrev pub base_bytes : Base → ℕ
base_bytes (Atom class limits) = 4
base_bytes Over = 2
base_bytes Under = 2
base_bytes (Root sign) = 6
base_bytes (Fence left right) = 10

abbrev pub opening_bytes : Kind → ℕ
opening_bytes (Scripted base) = base_bytes base
opening_bytes (Fraction bar) = 3

-- a fence holds a list; the first field of another item may be any
abbrev pub base_holds_list : Base → Bool
base_holds_list (Atom class limits) = false
base_holds_list Over = false
base_holds_list Under = false
base_holds_list (Root sign) = false
base_holds_list (Fence left right) = true

abbrev pub holds_list : Kind → Bool
holds_list (Scripted base) = base_holds_list base
holds_list (Fraction bar) = false

-- mark and four bytes
abbrev pub kern_bytes : ℕ
kern_bytes = 6

-- mark and the style's number
abbrev pub restyle_bytes : ℕ
restyle_bytes = 3

-- the mark
abbrev pub choice_opening_bytes : ℕ
choice_opening_bytes = 2

-- the kind byte of a field
abbrev pub empty_kind : ℕ
empty_kind = 0

abbrev pub symbol_kind : ℕ
symbol_kind = 1

abbrev pub list_kind : ℕ
list_kind = 2

abbrev pub long_list_kind : ℕ
long_list_kind = 3

-- kind byte, family, code
abbrev pub symbol_bytes : ℕ
symbol_bytes = 3

-- the greatest length that two bytes hold
abbrev pub greatest_short : ℕ
greatest_short = 65_535

-- kind byte and a two-byte length; kind byte and a four-byte length
abbrev pub short_opening_bytes : ℕ
short_opening_bytes = 3

abbrev pub long_opening_bytes : ℕ
long_opening_bytes = 5

-- of n bytes of items: four bytes are for the lengths that two do not hold, so that a list is written in one way
unfoldable pub list_opening_bytes : ℕ → ℕ
list_opening_bytes n = elim (leb n greatest_short) [ true ↦ short_opening_bytes | false ↦ long_opening_bytes ]

abbrev pub sublist_bytes : ℕ → ℕ
sublist_bytes n = list_opening_bytes n + n

-- a fraction has no third field
abbrev pub third_bytes : Kind → ℕ → ℕ
third_bytes (Scripted base) n = n
third_bytes (Fraction bar) n = 0

unfoldable mutual
  pub items_bytes : Items → ℕ
  items_bytes nil = 0
  items_bytes (cons i r) = item_bytes i + items_bytes r

  pub item_bytes : Item → ℕ
  item_bytes (noad k a b c) = opening_bytes k + field_bytes a + field_bytes b + third_bytes k (field_bytes c)
  item_bytes (kern n) = kern_bytes
  item_bytes (restyle n) = restyle_bytes
  item_bytes (choice d t sc ss) =
      choice_opening_bytes + sublist_bytes (items_bytes d) + sublist_bytes (items_bytes t) + sublist_bytes (items_bytes sc) + sublist_bytes (items_bytes ss)

  pub field_bytes : Field → ℕ
  field_bytes empty = 1
  field_bytes (symbol family code) = symbol_bytes
  field_bytes (list l) = sublist_bytes (items_bytes l)
