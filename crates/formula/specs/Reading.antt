-- The reading of a formula: its tree, or its first fault in reading order with its place (document 01, "Bytes of a
-- formula" and answers 3 and 4).
-- A list is read with the number of levels that may still be entered below it. Places within an item count from its
-- first byte, and places within a list from the list's first byte. `R` stands for the reading of shorter lists, `f` for the format.
--     field_by      a field, by its head
--     item_by       an item: its opening, then its fields in order; the fields of a choice, and the first of a fence, must be lists
--     list_by       a list: its first item, then the rest
--     read_under, read_formula_under     a list and a formula, whole; read, read_formula    in the format in use
-- Assumes nothing.
use Rattle.std.specs.Prelude.{Bool, true, false, List, [], ◌∷◌, ℕ, zero, suc, ◌+◌, ◌-◌, ltb, length, take, drop}
use Rattle.formula.specs.declared.Kind.{Kind}
use Rattle.formula.specs.declared.Kind.TheVariants.{Scripted, Fraction}
use Rattle.formula.specs.declared.Opening.{Opening}
use Rattle.formula.specs.declared.Opening.TheVariants.{NoItem, Fields, Kern, Restyle, Choice}
use Rattle.formula.specs.declared.FieldHead.{FieldHead}
use Rattle.formula.specs.declared.FieldHead.TheVariants.{NoField, Empty, Symbol, Sublist, CutSublist}
use Rattle.formula.specs.declared.Fault.{Fault}
use Rattle.formula.specs.declared.Fault.TheVariants.{Unreadable, TooDeep}
use Rattle.formula.specs.Format.{Format, long_format}
use Rattle.formula.specs.Tree.{Items, Item, Field, nil, cons, noad, kern, restyle, choice, empty, symbol, list, opening_bytes, holds_list, kern_bytes, restyle_bytes, choice_opening_bytes, symbol_bytes}
use Rattle.formula.specs.Heads.{opening_of, field_head_under}

-- ---- what reading gives

-- a list's tree, or its first fault and the place of it
pub data Read : Type 0 where
  good : Items → Read
  fault : Fault → ℕ → Read

-- a part of an item, with the place behind it, or a fault
pub data Got (A : Type 0) : Type 0 where
  got : A → ℕ → Got A
  stopped : Fault → ℕ → Got A

-- an item that can't be read is a fault at its own first byte
abbrev pub unreadable : {A : Type 0} → Got A
unreadable = stopped Unreadable 0

infixr 20 ◌then_at◌
abbrev pub ◌then_at◌ : {A B : Type 0} → Got A → (A → ℕ → Got B) → Got B
got a at then_at next = next a at
stopped why place then_at next = stopped why place

-- ---- a field, whose kind byte stands at the place `at` of its item

-- a list of n bytes, behind those of its opening, that has been read
unfoldable pub list_got : ℕ → ℕ → ℕ → Read → Got Field
list_got at opening n (good l) = got (list l) (at + opening + n)
list_got at opening n (fault why place) = stopped why (at + opening + place)

-- a list's kind byte comes before its length, its length before its contents; s goes from the kind byte to the end
unfoldable pub field_by : (ℕ → List ℕ → Read) → ℕ → ℕ → List ℕ → FieldHead → Got Field
field_by R levels at s NoField = unreadable
field_by R levels at s Empty = got empty (at + 1)
field_by R levels at s (Symbol family code) = got (symbol family code) (at + symbol_bytes)
field_by R zero at s (Sublist opening n) = stopped TooDeep at
field_by R (suc levels) at s (Sublist opening n) = list_got at opening n (R levels (take n (drop opening s)))
field_by R zero at s CutSublist = stopped TooDeep at
field_by R (suc levels) at s CutSublist = unreadable

-- a field that must be a list: its kind comes before its depth, since only a list can be too deep
unfoldable pub only_list : Field → ℕ → Got Items
only_list empty end = unreadable
only_list (symbol family code) end = unreadable
only_list (list l) end = got l end

-- an item's first field, where it must be a list, or may be any field
unfoldable pub held_in : Bool → Field → ℕ → Got Field
held_in true f end = only_list f end then_at λ l at. got (list l) at
held_in false f end = got f end

-- ---- an item, from its first byte to the end of its list

module _ (f : Format) (R : ℕ → List ℕ → Read) (levels : ℕ) (s : List ℕ) where
  unfoldable pub field_at : ℕ → Got Field
  field_at at = field_by R levels at (drop at s) (field_head_under f (drop at s))

  unfoldable pub first_at : Kind → Got Field
  first_at kind = field_at (opening_bytes kind) then_at held_in (holds_list kind)

  -- a fraction has two fields, a base with scripts three
  unfoldable pub third_at : Kind → ℕ → Got Field
  third_at (Scripted base) at = field_at at
  third_at (Fraction bar) at = got empty at

  unfoldable pub noad_at : Kind → Got Item
  noad_at kind =
      first_at kind then_at λ a at₂.
      field_at at₂ then_at λ b at₃.
      third_at kind at₃ then_at λ c end.
      got (noad kind a b c) end

  unfoldable pub list_at : ℕ → Got Items
  list_at at = field_at at then_at only_list

  unfoldable pub choice_at : Got Item
  choice_at =
      list_at choice_opening_bytes then_at λ d at₂.
      list_at at₂ then_at λ t at₃.
      list_at at₃ then_at λ sc at₄.
      list_at at₄ then_at λ ss end.
      got (choice d t sc ss) end

  unfoldable pub opened_by : Opening → Got Item
  opened_by NoItem = unreadable
  opened_by (Fields kind) = noad_at kind
  opened_by (Kern n) = got (kern n.0) kern_bytes
  opened_by (Restyle n) = got (restyle n) restyle_bytes
  opened_by Choice = choice_at

  unfoldable pub item_by : Got Item
  item_by = opened_by (opening_of s)

-- ---- a list

-- the item i of `size` bytes, and then what reading the rest gave
unfoldable pub before : Item → ℕ → Read → Read
before i size (good l) = good (cons i l)
before i size (fault why place) = fault why (size + place)

unfoldable pub rest_by : (ℕ → List ℕ → Read) → ℕ → List ℕ → Got Item → Read
rest_by R levels s (got i size) = before i size (R levels (drop size s))
rest_by R levels s (stopped why place) = fault why place

unfoldable pub list_by : Format → (ℕ → List ℕ → Read) → ℕ → List ℕ → Read
list_by f R levels [] = good nil
list_by f R levels (b ∷ s) = rest_by R levels (b ∷ s) (item_by f R levels (b ∷ s))

-- reading in at most n steps; with more steps than bytes their number makes no difference
unfoldable pub read_by : Format → ℕ → ℕ → List ℕ → Read
read_by f zero levels s = fault Unreadable 0
read_by f (suc n) levels s = list_by f (read_by f n) levels s

unfoldable pub read_under : Format → ℕ → List ℕ → Read
read_under f levels s = read_by f (suc (length s)) levels s

-- the formula itself is the first level
unfoldable pub read_formula_under : Format → List ℕ → Read
read_formula_under f s =
    elim (ltb f.longest (length s)) [ true ↦ fault Unreadable 0 | false ↦ read_under f (f.deepest - 1) s ]

-- ---- the reading in the format in use

abbrev pub read : ℕ → List ℕ → Read
read levels s = read_under long_format levels s

abbrev pub read_formula : List ℕ → Read
read_formula s = read_formula_under long_format s
