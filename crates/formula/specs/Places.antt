-- A readable list, walked by its heads alone: where its items and their fields stand, how many bytes each takes, and
-- which tree each is. A list of bytes stands here for what goes from an item's first byte to the end of its list.
--     Readable, tree_of     of a list, with no number of levels: a list nests less deep than it is long
--     head_bytes            the bytes of a field, by its head
--     field_of, GoodField   a field, from its kind byte on
--     list_of, GoodList     a field that must be a list
--     second, third, end   the places of an item's fields, and the place behind it; list_place those of a choice's lists
--     item_size, item_of, GoodItem     an item, by its opening
--     second_field, third_field, second_list, third_list, fourth_list     the places of fields and of lists, from the tree
-- That they say what `read` says is shown in `PlacesLaws`.
-- Assumes nothing.
use Rattle.std.specs.Prelude.{Bool, true, false, List, ℕ, zero, suc, ◌+◌, ◌<◌, pos, length, take, drop}
use Rattle.formula.specs.declared.Kind.{Kind}
use Rattle.formula.specs.declared.Kind.TheVariants.{Scripted, Fraction}
use Rattle.formula.specs.declared.Opening.{Opening}
use Rattle.formula.specs.declared.Opening.TheVariants.{NoItem, Fields, Kern, Restyle, Choice}
use Rattle.formula.specs.declared.FieldHead.{FieldHead}
use Rattle.formula.specs.declared.FieldHead.TheVariants.{NoField, Empty, Symbol, Sublist, CutSublist}
use Rattle.formula.specs.Tree.{Items, Item, Field, nil, noad, kern, restyle, choice, empty, symbol, list, opening_bytes, holds_list, kern_bytes, restyle_bytes, choice_opening_bytes, symbol_bytes, sublist_bytes, items_bytes, field_bytes}
use Rattle.formula.specs.Heads.{field_head}
use Rattle.formula.specs.Reading.{Read, good, fault, read}

-- ---- a list

abbrev pub tree_in : Read → Items
tree_in (good l) = l
tree_in (fault why place) = nil

abbrev pub IsGood : Read → Type 0
IsGood (good l) = Unit {0}
IsGood (fault why place) = ⊥

unfoldable pub Readable : List ℕ → Type 0
Readable s = IsGood (read (length s) s)

unfoldable pub tree_of : List ℕ → Items
tree_of s = tree_in (read (length s) s)

-- ---- a field, from its kind byte on

abbrev pub head_bytes : FieldHead → ℕ
head_bytes NoField = 0
head_bytes Empty = 1
head_bytes (Symbol family code) = symbol_bytes
head_bytes (Sublist opening n) = opening + n
head_bytes CutSublist = 0

-- the n bytes of a list field's items
abbrev pub contents : ℕ → ℕ → List ℕ → List ℕ
contents opening n s = take n (drop opening s)

abbrev pub field_of : List ℕ → FieldHead → Field
field_of s NoField = empty
field_of s Empty = empty
field_of s (Symbol family code) = symbol family code
field_of s (Sublist opening n) = list (tree_of (contents opening n s))
field_of s CutSublist = empty

abbrev pub GoodField : List ℕ → FieldHead → Type 0
GoodField s NoField = ⊥
GoodField s Empty = Unit {0}
GoodField s (Symbol family code) = Unit {0}
GoodField s (Sublist opening n) = Readable (contents opening n s)
GoodField s CutSublist = ⊥

-- a field that must be a list
abbrev pub list_of : List ℕ → FieldHead → Items
list_of s NoField = nil
list_of s Empty = nil
list_of s (Symbol family code) = nil
list_of s (Sublist opening n) = tree_of (contents opening n s)
list_of s CutSublist = nil

abbrev pub GoodList : List ℕ → FieldHead → Type 0
GoodList s NoField = ⊥
GoodList s Empty = ⊥
GoodList s (Symbol family code) = ⊥
GoodList s (Sublist opening n) = Readable (contents opening n s)
GoodList s CutSublist = ⊥

-- ---- an item

-- a choice has a list for each of D, T, S, SS
abbrev pub choice_lists : ℕ
choice_lists = 4

-- a fraction has two fields, a base with scripts three
abbrev pub has_third : Kind → Bool
has_third (Scripted base) = true
has_third (Fraction bar) = false

-- the bytes before the fields
abbrev pub opened_bytes : Opening → ℕ
opened_bytes NoItem = 0
opened_bytes (Fields kind) = opening_bytes kind
opened_bytes (Kern n) = kern_bytes
opened_bytes (Restyle n) = restyle_bytes
opened_bytes Choice = choice_opening_bytes

module _ (s : List ℕ) where
  abbrev pub head_at : ℕ → FieldHead
  head_at at = field_head (drop at s)

  -- the place behind the field that stands at a place
  abbrev pub field_end : ℕ → ℕ
  field_end at = at + head_bytes (head_at at)

  abbrev pub second : Kind → ℕ
  second kind = field_end (opening_bytes kind)

  abbrev pub third : Kind → ℕ
  third kind = field_end (second kind)

  -- the place behind a third field, if there is one
  abbrev pub third_end : Bool → ℕ → ℕ
  third_end true at = field_end at
  third_end false at = at

  abbrev pub end : Kind → ℕ
  end kind = third_end (has_third kind) (third kind)

  -- the place of a choice's list with so many before it; with all four before it, the place behind the choice
  abbrev pub list_place : ℕ → ℕ
  list_place zero = choice_opening_bytes
  list_place (suc n) = field_end (list_place n)

  abbrev pub item_size : Opening → ℕ
  item_size NoItem = 0
  item_size (Fields kind) = end kind
  item_size (Kern n) = kern_bytes
  item_size (Restyle n) = restyle_bytes
  item_size Choice = list_place choice_lists

  abbrev pub field_in : ℕ → Field
  field_in at = field_of (drop at s) (head_at at)

  abbrev pub third_in : Bool → ℕ → Field
  third_in true at = field_in at
  third_in false at = empty

  -- the list of a choice with so many before it
  abbrev pub list_in : ℕ → Items
  list_in n = list_of (drop (list_place n) s) (head_at (list_place n))

  abbrev pub item_of : Opening → Item
  item_of NoItem = kern (pos 0)
  item_of (Fields kind) =
      noad kind (field_in (opening_bytes kind)) (field_in (second kind)) (third_in (has_third kind) (third kind))
  item_of (Kern n) = kern n.0
  item_of (Restyle n) = restyle n
  item_of Choice = choice (list_in 0) (list_in 1) (list_in 2) (list_in 3)

  abbrev pub GoodFieldAt : ℕ → Type 0
  GoodFieldAt at = GoodField (drop at s) (head_at at)

  abbrev pub GoodThird : Bool → ℕ → Type 0
  GoodThird true at = GoodFieldAt at
  GoodThird false at = Unit {0}

  abbrev pub GoodListAt : ℕ → Type 0
  GoodListAt at = GoodList (drop at s) (head_at at)

  -- a first field that must be a list
  abbrev pub GoodHeld : Bool → ℕ → Type 0
  GoodHeld true at = GoodListAt at
  GoodHeld false at = Unit {0}

  abbrev pub GoodItem : Opening → Type 0
  GoodItem NoItem = ⊥
  GoodItem (Fields kind) =
      GoodFieldAt (opening_bytes kind)
      × GoodFieldAt (second kind)
      × GoodThird (has_third kind) (third kind)
      × GoodHeld (holds_list kind) (opening_bytes kind)
  GoodItem (Kern n) = Unit {0}
  GoodItem (Restyle n) = Unit {0}
  GoodItem Choice = (n : ℕ) → n < choice_lists → GoodListAt (list_place n)

-- ---- the places of fields and of lists in their item, from the bytes of the trees before them

abbrev pub second_field : Kind → Field → ℕ
second_field kind x = opening_bytes kind + field_bytes x

abbrev pub third_field : Kind → Field → Field → ℕ
third_field kind x y = second_field kind x + field_bytes y

abbrev pub second_list : Items → ℕ
second_list d = choice_opening_bytes + sublist_bytes (items_bytes d)

abbrev pub third_list : Items → Items → ℕ
third_list d t = second_list d + sublist_bytes (items_bytes t)

abbrev pub fourth_list : Items → Items → Items → ℕ
fourth_list d t sc = third_list d t + sublist_bytes (items_bytes sc)
