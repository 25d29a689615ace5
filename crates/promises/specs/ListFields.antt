-- The list fields that are set of a formula, by the places of their kind bytes, with the styles that the rules give them and the
-- neighbours that they see on their sides, from the bytes and the formula's style alone (document 01, "Bytes of a formula"; change
-- requests 2 and 4).
--     taken_place     the lists of C4 stand one behind the other, the first behind the mark, and the style takes one
--     ItemAt         a list is a row of items, each right behind the one before it. The style stays but past ST, which sets it, and past
--                    C4, where it is that at the end of the taken list
--     SetItem        an item that is set: an item of the list, or one of the list that a C4 takes
--     FieldAt        an item's fields stand one behind the other, the first behind the opening; each has its style, and its sides: the
--                    first field of an item that must hold a list, a fence, has a fence's, and no other has any (`field_sides_lem`, `step_sides_lem`)
--     ListField      a list field is the byte 2 and two bytes of length, or the byte 3 and four, and that many bytes of items; so begins
--                    what the reading takes for one (`list_field_lem`)
--     OwnListField   a list field of an item that is set in the list itself
--     ListFieldAt    a list field at any depth: the items within a list field are looked at in the same way
-- Every one of them is reached by a path (`reached`): the formula's tree is the path filled with the tree of the field's bytes, and the
-- path leads to the place of these bytes, and gives them this style and these sides. That every path leads to one is shown in `EveryField`.
-- Assumes nothing.
use Rattle.std.specs.Prelude.{◌≡◌, refl, Bool, true, false, ◌&&◌, List, [], ◌∷◌, ℕ, ◌+◌, ◌<◌, leb, eqb, length, take, drop}
use Rattle.std.proofs.Common.{sym, subst, ap, ap₂, ◌∙◌, arith, length-drop, drop-drop, eqb-true}
use Rattle.std.proofs.Math.Option.{Option, none, some}
use Rattle.laws.specs.Truths.{by_test, either, both_true}
use Rattle.scaled.specs.declared.Sp.{Sp}
use Rattle.words.specs.Words.{little_endian}
use Rattle.formula.specs.declared.Kind.{Kind}
use Rattle.formula.specs.declared.Opening.{Opening}
use Rattle.formula.specs.declared.Opening.TheVariants.{Fields, Kern, Restyle, Choice}
use Rattle.formula.specs.declared.FieldHead.{FieldHead}
use Rattle.formula.specs.declared.FieldHead.TheVariants.{Sublist, CutSublist, NoField, Empty, Symbol}
use Rattle.formula.specs.Tree.{Items, Item, Field, nil, cons, noad, empty, symbol, list, opening_bytes, holds_list, short_opening_bytes, long_opening_bytes, list_opening_bytes, sublist_bytes, items_bytes, field_bytes}
use Rattle.formula.specs.Heads.{opening_of, sublist_head, list_head, long_list_head, field_head_under, field_head, greatest_family, symbol_head}
use Rattle.formula.specs.HeadLaws.{list_opening_lem, opening_some, contents_shorter, opening_fits}
use Rattle.formula.specs.Places.{Readable, tree_of, head_bytes, contents, field_of, GoodField, list_of, choice_lists, has_third, opened_bytes, head_at, second, third, list_place, item_size, field_in, third_in, list_in, item_of}
use Rattle.formula.specs.PlacesLaws.{tree_none, items_bytes_lem, Noad, noad_at_lem, choice_at_lem, step, third_good, list_good_field, item_bytes_lem, list_bytes, second_field_lem, third_field_lem}
use Rattle.boxes.specs.declared.styles.Level.{Level}
use Rattle.boxes.specs.declared.styles.Level.TheVariants.{Display, Text, Script, Scriptscript}
use Rattle.boxes.specs.declared.styles.Style.{Style}
use Rattle.boxes.specs.Styles.{style_of}
use Rattle.arrange.specs.Arrange.{first_style, second_style, third_style, first_manner}
use Rattle.setting.specs.Setting.{taken, style_after, style_behind, Sides, no_sides, fence_sides, sides_of}
use Rattle.setting.proofs.SettingLaws.{held_sides, first_sides, taken_all, style_behind_choice_lem}
use Rattle.setting.proofs.Lines.{style_after_join}
use Rattle.setting.specs.Paths.{Arm, in_first, in_second, in_third, holding, field_style, field_manner, field_place, HasField, join, choice_with, list_place as placeAmong, Spot, among, within, put, items_before, spot_place, Step, list_with, item_style, step_style, step_sides, step_place, Path, whole, into, fill, style_at, sides_at, place_of, HasFields}
use Rattle.promises.specs.FieldBytes.{PartAt, part_behind, part_within}

-- ---- what stands where

-- bytes that begin with a list field, and the bytes that the field holds
pub data ListField : List ℕ → List ℕ → Type 0 where
  list_field : (a b : ℕ) (rest : List ℕ) → ListField (2 ∷ a ∷ b ∷ rest) (take (little_endian 2 (a ∷ b ∷ [])) rest)
  long_list_field : (a b c d : ℕ) (rest : List ℕ) →
      ListField (3 ∷ a ∷ b ∷ c ∷ d ∷ rest) (take (little_endian 4 (a ∷ b ∷ c ∷ d ∷ [])) rest)

-- a choice's lists are for D, T, S, SS: so many stand before the one that the style takes
abbrev pub taken_number : Style → ℕ
taken_number u = taken u 0 1 2 3

-- the place of that list in the choice that s begins with
abbrev pub taken_place : Style → List ℕ → ℕ
taken_place u s = list_place s (taken_number u)

-- in the list s, which starts in the style u, an item begins at this place, or the list ends there; and the style there
pub data ItemAt : Style → List ℕ → ℕ → Style → Type 0 where
  first : {u : Style} {s : List ℕ} → ItemAt u s 0 u
  past_fields : {u w : Style} {s : List ℕ} (at : ℕ) (kind : Kind) → opening_of s ≡ Fields kind →
      ItemAt u (drop (item_size s (Fields kind)) s) at w → ItemAt u s (item_size s (Fields kind) + at) w
  past_kern : {u w : Style} {s : List ℕ} (at : ℕ) (n : Sp) → opening_of s ≡ Kern n →
      ItemAt u (drop (item_size s (Kern n)) s) at w → ItemAt u s (item_size s (Kern n) + at) w
  past_style : {u v w : Style} {s : List ℕ} (at n : ℕ) → opening_of s ≡ Restyle n → style_of n ≡ some v →
      ItemAt v (drop (item_size s (Restyle n)) s) at w → ItemAt u s (item_size s (Restyle n) + at) w
  past_choice : {u v w : Style} {s inner : List ℕ} (at : ℕ) → opening_of s ≡ Choice → ListField (drop (taken_place u s) s) inner →
      ItemAt u inner (length inner) v → ItemAt v (drop (item_size s Choice) s) at w → ItemAt u s (item_size s Choice + at) w

-- an item that is set in the list s, which starts in the style u: its place, the style current at it, and the bytes from it to the end
-- of its own list
pub data SetItem : Style → List ℕ → ℕ → Style → List ℕ → Type 0 where
  in_list : {u v : Style} {s : List ℕ} {at : ℕ} → ItemAt u s at v → SetItem u s at v (drop at s)
  in_taken : {u v w : Style} {s inner item : List ℕ} {at k : ℕ} → ItemAt u s at v → opening_of (drop at s) ≡ Choice →
      ListField (drop (taken_place v (drop at s)) (drop at s)) inner → SetItem v inner k w item →
      SetItem u s (at + (taken_place v (drop at s) + list_opening_bytes (length inner)) + k) w item

-- a place of a field of the item that s begins with, which is of this kind and in the style u, the field's style, and its
-- sides
pub data FieldAt (s : List ℕ) (kind : Kind) (u : Style) : ℕ → Style → Sides → Type 0 where
  in_one : FieldAt s kind u (opening_bytes kind) (first_style kind u) (sides_of (first_manner kind u))
  in_two : FieldAt s kind u (second s kind) (second_style kind u) no_sides
  in_three : has_third kind ≡ true → FieldAt s kind u (third s kind) (third_style u) no_sides

-- an item that is set in the list s, which starts in the style u, has at this place of s the kind byte of a list field in the style v,
-- between these sides
pub record OwnListField (u : Style) (s : List ℕ) (place : ℕ) (v : Style) (sides : Sides) (field : List ℕ) : Type 0 where
  pub item_place : ℕ
  pub item_style_lem : Style
  pub item : List ℕ
  pub is_set : SetItem u s item_place item_style_lem item
  pub kind : Kind
  pub opens : opening_of item ≡ Fields kind
  pub field_place_lem : ℕ
  pub in_item : FieldAt item kind item_style_lem field_place_lem v sides
  pub place_is : place ≡ item_place + field_place_lem
  pub is_list_lem : ListField (drop field_place_lem item) field

-- at this place of s, which starts in the style u, stands the kind byte of a list field in the style v, between these sides, that
-- holds these bytes
pub data ListFieldAt (u : Style) (s : List ℕ) : ℕ → Style → Sides → List ℕ → Type 0 where
  own : {place : ℕ} {v : Style} {sides : Sides} {field : List ℕ} → OwnListField u s place v sides field →
      ListFieldAt u s place v sides field
  deeper : {outer inner : ℕ} {v w : Style} {beside sides : Sides} {around field : List ℕ} → ListFieldAt u s outer v beside around →
      OwnListField v around inner w sides field → ListFieldAt u s (outer + list_opening_bytes (length around) + inner) w sides field

-- ---- the fields that have sides

-- a fence's list: the first field of an item that must hold a list
abbrev pub FenceList : Kind → ℕ → Type 0
FenceList kind at = (holds_list kind ≡ true) × (at ≡ opening_bytes kind)

-- it has the sides of a fence, and no other field has any
pub record SidesOf (kind : Kind) (at : ℕ) (sides : Sides) : Type 0 where
  pub of_fence : FenceList kind at → sides ≡ fence_sides
  pub of_others : (FenceList kind at → ⊥) → sides ≡ no_sides

-- ---- a list field reads to the tree of the bytes that it holds

record ListRead (s field : List ℕ) : Type 0 where
  readable : Readable field
  is : field_of s (field_head s) ≡ list (tree_of field)
  items_are : list_of s (field_head s) ≡ tree_of field
  part : PartAt s (list_opening_bytes (length field)) field

-- ---- the list that a choice takes

pub record TakenRead (u : Style) (s inner : List ℕ) : Type 0 where
  pub readable : Readable inner
  pub items_are : taken u (list_in s 0) (list_in s 1) (list_in s 2) (list_in s 3) ≡ tree_of inner
  pub a : Items
  pub b : Items
  pub c : Items
  pub is : item_of s Choice ≡ choice_with u.level (tree_of inner) a b c
  pub place : placeAmong u.level a b c ≡ taken_place u s
  pub part : PartAt s (taken_place u s + list_opening_bytes (length inner)) inner

-- ---- the items before a place, and the style there

record Behind (u : Style) (s : List ℕ) (at : ℕ) (v : Style) : Type 0 where
  before : Items
  readable : Readable (drop at s)
  tree : tree_of s ≡ join before (tree_of (drop at s))
  long : items_bytes before ≡ at
  style : style_after u before ≡ v

-- ---- an item that is set: a spot

pub record SpotOf (u : Style) (s : List ℕ) (at : ℕ) (v : Style) (item : List ℕ) (kind : Kind) : Type 0 where
  pub spot : Spot
  pub noad : Noad item kind
  pub tree : tree_of s ≡ put u spot (item_of item (Fields kind))
  pub style : style_after u (items_before spot) ≡ v
  pub place : spot_place u spot (item_of item (Fields kind)) ≡ at
  pub part : PartAt s at item

-- ---- a list field of the first item

record Held (s : List ℕ) (kind : Kind) (u : Style) (at : ℕ) (v : Style) (sides : Sides) (field : List ℕ) : Type 0 where
  arm : Arm
  is : item_of s (Fields kind) ≡ holding kind arm (tree_of field)
  style : field_style kind arm u ≡ v
  between : sides_of (field_manner kind arm u) ≡ sides
  has : HasField kind arm
  place : field_place kind arm ≡ at
  read : ListRead (drop at s) field

-- ---- a list field of an item of a list: one step

record Entered (u : Style) (s : List ℕ) (place : ℕ) (v : Style) (sides : Sides) (field : List ℕ) : Type 0 where
  by : Step
  readable : Readable field
  tree : tree_of s ≡ list_with u by (tree_of field)
  style : step_style u by ≡ v
  between : step_sides u by ≡ sides
  has : HasField by.kind by.arm
  there : step_place u by (tree_of field) ≡ place + list_opening_bytes (length field)
  part : PartAt s (step_place u by (tree_of field)) field

-- ---- a list field at any depth: a path

pub record Reached (u : Style) (formula : List ℕ) (place : ℕ) (v : Style) (sides : Sides) (field : List ℕ) : Type 0 where
  pub p : Path
  pub t : Step
  pub readable : Readable field
  pub tree : tree_of formula ≡ fill u (into p t) (tree_of field)
  pub style : style_at u (into p t) ≡ v
  pub between : sides_at u (into p t) ≡ sides
  pub has_fields : HasFields (into p t)
  pub there : place_of u (into p t) (tree_of field) ≡ place + list_opening_bytes (length field)
  pub part : PartAt formula (place_of u (into p t) (tree_of field)) field
