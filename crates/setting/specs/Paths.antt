-- Where a list field stands in a formula.
--     Arm      one field of an item, with the other two
--     Spot     where an item stands in a list: among its items, or at a spot in the list that one of its choices takes;
--              `spot_style` is the style current at it, `spot_place` its place in the list's bytes
--     Step     from a list into a field of the item at a spot of it
--     Path     from the formula to a list within it: no step at all, or one step more from the list at a path
--     fill s p l     the formula that has the list l at the path p, where the formula is in the style s, by which its choices take
--                    their lists; every formula with a list field that is set is one in this way
--     style_at s p    the style that the rules give the list at p, from the style current at the item that holds it
--     sides_at s p    the neighbours that it sees on its sides, though they are not in it: those of a fence, or none
--     HasFields p    each step of p goes into a field that its item has, as it does in what reads: a fraction has no third one
--     place_of s p l  the place of that list's first item in the bytes of the formula, which depends on how long the lists around it are
-- An item's kind goes along as it is: no function here looks at it but through the rules' own.
-- Assumes nothing.
use Rattle.std.specs.Prelude.{◌≡◌, true, ℕ, ◌+◌}
use Rattle.formula.specs.declared.Kind.{Kind}
use Rattle.formula.specs.Tree.{Items, Item, Field, nil, cons, noad, choice, list, opening_bytes, choice_opening_bytes, list_opening_bytes, items_bytes}
use Rattle.formula.specs.Places.{has_third, second_field, third_field, second_list, third_list, fourth_list}
use Rattle.boxes.specs.declared.styles.Level.{Level}
use Rattle.boxes.specs.declared.styles.Level.TheVariants.{Display, Text, Script, Scriptscript}
use Rattle.boxes.specs.declared.styles.Style.{Style}
use Rattle.arrange.specs.declared.Manner.{Manner}
use Rattle.arrange.specs.declared.Manner.TheVariants.{Plain}
use Rattle.arrange.specs.Arrange.{first_style, second_style, third_style, first_manner}
use Rattle.setting.specs.Setting.{style_after, Sides, no_sides, sides_of}

-- ---- a field of an item

pub data Arm : Type 0 where
  in_first : Field → Field → Arm  -- the second and the third field are given
  in_second : Field → Field → Arm  -- the first and the third
  in_third : Field → Field → Arm  -- the first and the second

-- the item of a kind that has a list in the field
abbrev pub holding : Kind → Arm → Items → Item
holding kind (in_first y z) l = noad kind (list l) y z
holding kind (in_second x z) l = noad kind x (list l) z
holding kind (in_third x y) l = noad kind x y (list l)

abbrev pub field_style : Kind → Arm → Style → Style
field_style kind (in_first y z) s = first_style kind s
field_style kind (in_second x z) s = second_style kind s
field_style kind (in_third x y) s = third_style s

abbrev pub field_manner : Kind → Arm → Style → Manner
field_manner kind (in_first y z) s = first_manner kind s
field_manner kind (in_second x z) s = Plain
field_manner kind (in_third x y) s = Plain

-- the place of the field's kind byte in the item
abbrev pub field_place : Kind → Arm → ℕ
field_place kind (in_first y z) = opening_bytes kind
field_place kind (in_second x z) = second_field kind x
field_place kind (in_third x y) = third_field kind x y

-- an item has that field: a fraction has no third
abbrev pub HasField : Kind → Arm → Type 0
HasField kind (in_first y z) = Unit {0}
HasField kind (in_second x z) = Unit {0}
HasField kind (in_third x y) = has_third kind ≡ true

-- ---- where an item stands in a list

abbrev pub join : Items → Items → Items
join nil r = r
join (cons i b) r = cons i (join b r)

-- the choice with a list for a level, and three more for the others in their order
abbrev pub choice_with : Level → Items → Items → Items → Items → Item
choice_with Display l a b c = choice l a b c
choice_with Text l a b c = choice a l b c
choice_with Script l a b c = choice a b l c
choice_with Scriptscript l a b c = choice a b c l

-- the place of that list's kind byte in the choice
abbrev pub list_place : Level → Items → Items → Items → ℕ
list_place Display a b c = choice_opening_bytes
list_place Text a b c = second_list a
list_place Script a b c = third_list a b
list_place Scriptscript a b c = fourth_list a b c

pub data Spot : Type 0 where
  among : Items → Items → Spot  -- the items before and after
  within : Items → Items → Items → Items → Spot → Items → Spot  -- before the choice, its lists not taken, in the taken one, after it

-- the list with an item at the spot, where the list is in the style s
abbrev pub put : Style → Spot → Item → Items
put s (among before after) i = join before (cons i after)
put s (within before a b c spot after) i =
    let t = style_after s before in
    join before (cons (choice_with t.level (put t spot i) a b c) after)

-- the items on either side, those of a choice as if they stood in its place
abbrev pub items_before : Spot → Items
items_before (among before after) = before
items_before (within before a b c spot after) = join before (items_before spot)

abbrev pub items_after : Spot → Items
items_after (among before after) = after
items_after (within before a b c spot after) = join (items_after spot) after

-- the place of the item, behind the opening of every list that it is in
abbrev pub spot_place : Style → Spot → Item → ℕ
spot_place s (among before after) i = items_bytes before
spot_place s (within before a b c spot after) i =
    let t = style_after s before in
    items_bytes before + (list_place t.level a b c + list_opening_bytes (items_bytes (put t spot i))) + spot_place t spot i

-- the style current at the item
abbrev pub spot_style : Style → Spot → Style
spot_style s spot = style_after s (items_before spot)

-- ---- from a list into a field of one of its items

pub record Step : Type 0 where
  pub spot : Spot
  pub kind : Kind
  pub arm : Arm

abbrev pub holder : Step → Items → Item
holder t l = holding t.kind t.arm l

abbrev pub list_with : Style → Step → Items → Items
list_with s t l = put s t.spot (holder t l)

abbrev pub item_style : Style → Step → Style
item_style s t = spot_style s t.spot

abbrev pub step_style : Style → Step → Style
step_style s t = field_style t.kind t.arm (item_style s t)

abbrev pub step_sides : Style → Step → Sides
step_sides s t = sides_of (field_manner t.kind t.arm (item_style s t))

-- the place of the list's first item
abbrev pub step_place : Style → Step → Items → ℕ
step_place s t l = spot_place s t.spot (holder t l) + (field_place t.kind t.arm + list_opening_bytes (items_bytes l))

-- ---- from a formula to a list within it, at any depth

pub data Path : Type 0 where
  whole : Path
  into : Path → Step → Path

abbrev pub style_at : Style → Path → Style
style_at s whole = s
style_at s (into p t) = step_style (style_at s p) t

abbrev pub sides_at : Style → Path → Sides
sides_at s whole = no_sides
sides_at s (into p t) = step_sides (style_at s p) t

abbrev pub fill : Style → Path → Items → Items
fill s whole l = l
fill s (into p t) l = fill s p (list_with (style_at s p) t l)

abbrev pub place_of : Style → Path → Items → ℕ
place_of s whole l = 0
place_of s (into p t) l = place_of s p (list_with (style_at s p) t l) + step_place (style_at s p) t l

-- it goes into fields that the items on its way have
abbrev pub HasFields : Path → Type 0
HasFields whole = Unit {0}
HasFields (into p t) = HasFields p × HasField t.kind t.arm
