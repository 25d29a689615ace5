-- An item as it stands on the page: for every item that is set, at any depth, and in the list that a choice takes too.
--     Site           where an item stands in a formula: in the list at a path, at a spot of it. `with_item` is the formula that has an item
--                    there, `site_style` the style current at the item, `site_place` the place of its first byte
--     SetAt          an item that is set at a place of a formula: it stands at a site, with that style and that place
--     ItemOnPage     the page's nodes are nodes before the item, its own nodes moved by one distance, and nodes after it. Its own are those
--                    before the first field, the first field's, those behind it, the second field's, the third's, each where `arrange`
--                    puts it (`item_nodes`). The distance is the item's reference point on the page, and its `up` the item's baseline
--     PartsOnPage    so each of these five is on the page a run of nodes, moved by the sum of two distances
--     item_on_page, parts_on_page     of every item that is set
--     StandsAbove    nodes that stand so far above a point of the page. So do those of the field that is shifted up, a superscript or a
--                    numerator, and of that which is shifted down (`raised_on_page`, `lowered_on_page`)
-- It is shown as demand 3 is (`FieldInPlace`), by frames: the item in its list, and that list in the whole.
-- Assumes nothing.
use Rattle.std.specs.Prelude.{◌≡◌, ℕ, ◌+◌, ℤ, ◌+ℤ◌}
use Rattle.std.proofs.Common.{ap, subst, ◌∙◌}
use mathlib.Core.List.{List, [], ◌++◌, append_assoc}
use Rattle.font.specs.Font.{Font}
use Rattle.formula.specs.declared.Kind.{Kind}
use Rattle.formula.specs.declared.Kind.TheVariants.{Scripted, Fraction}
use Rattle.formula.specs.Tree.{Items, Item, Field, noad}
use Rattle.boxes.specs.declared.styles.Style.{Style}
use Rattle.boxes.specs.Boxes.{Size, Offset, Arranged}
use Rattle.nodes.specs.Nodes.{Node, moved}
use Rattle.nodes.specs.NodeLaws.{moved_append, moved_twice}
use Rattle.arrange.specs.ReasonsLaws.{raised, lowered}
use Rattle.setting.specs.Setting.{Box, FieldBox, no_sides, moved_by, own_nodes, item_nodes, item_box, set_list}
use Rattle.setting.specs.Frames.{Frame, framed, nest, further, framed_nest, first_frame, second_frame, third_frame, first_framed, second_framed, third_framed}
use Rattle.setting.specs.Paths.{Spot, put, spot_style, spot_place, Path, fill, style_at, sides_at, place_of, HasFields}
use Rattle.setting.specs.FieldInPlace.{item_set, list_frame, list_size, list_around, frame, box_around}
use Rattle.setting.specs.Picked.{Picked, picked_item, picked_first, picked_second, picked_third, picked_arranged}

-- ---- where an item stands in a formula

pub record Site : Type 0 where
  pub path : Path
  pub spot : Spot

module _ (s : Style) (t : Site) where
  abbrev pub site_style : Style
  site_style = spot_style (style_at s t.path) t.spot

  -- the list that has the item
  abbrev pub list_there : Item → Items
  list_there i = put (style_at s t.path) t.spot i

  abbrev pub with_item : Item → Items
  with_item i = fill s t.path (list_there i)

  abbrev pub site_place : Item → ℕ
  site_place i = place_of s t.path (list_there i) + spot_place (style_at s t.path) t.spot i

pub record SetAt (s : Style) (place : ℕ) (formula : Items) (q : Picked) : Type 0 where
  pub site : Site
  pub formula_is : formula ≡ with_item s site (picked_item q)
  pub style_is : site_style s site ≡ q.style
  pub place_is : site_place s site (picked_item q) ≡ place
  pub has_fields : HasFields site.path

-- ---- the item on the page

-- its nodes from its own reference point
abbrev pub picked_nodes : Font → Picked → List Node
picked_nodes F q = item_nodes (picked_arranged F q) (picked_first F q) (picked_second F q) (picked_third F q)

pub record ItemOnPage (F : Font) (q : Picked) (page : List Node) : Type 0 where
  pub before : List Node
  pub reference : Offset
  pub after : List Node
  pub page_is : page ≡ before ++ (moved_by reference (picked_nodes F q) ++ after)

-- a run of nodes on the page
pub record Run (nodes page : List Node) : Type 0 where
  pub before : List Node
  pub after : List Node
  pub page_is : page ≡ before ++ (nodes ++ after)

pub record PartsOnPage (F : Font) (q : Picked) (reference : Offset) (page : List Node) : Type 0 where
  pub own_before : Run (moved_by reference (own_nodes (picked_arranged F q).own.before)) page
  pub first : Run (moved_by (further reference (picked_arranged F q).first) (picked_first F q).nodes) page
  pub own_behind : Run (moved_by reference (own_nodes (picked_arranged F q).own.behind)) page
  pub second : Run (moved_by (further reference (picked_arranged F q).second) (picked_second F q).nodes) page
  pub third : Run (moved_by (further reference (picked_arranged F q).third) (picked_third F q).nodes) page

-- ---- an item that is set stands on the page
module _ (F : Font) (s : Style) (t : Site) (kind : Kind) where
  -- what stands around an item of the size z
  abbrev pub site_frame : Size → Frame
  site_frame z =
      let u = style_at s t.path in
      let sides = sides_at s t.path in
      nest (frame F s t.path (list_size F sides u t.spot kind z)) (list_frame F sides u t.spot kind z)

-- ---- what is shifted up and down

pub record StandsAbove (reference : Offset) (shift : ℤ) (nodes page : List Node) : Type 0 where
  pub across : ℤ
  pub run : Run (moved across (shift +ℤ reference.up) nodes) page

abbrev pub raised_of : {A : Type 0} → Kind → A → A → A → A
raised_of (Scripted base) first second third = second
raised_of (Fraction bar) first second third = first

abbrev pub lowered_of : {A : Type 0} → Kind → A → A → A → A
lowered_of (Scripted base) first second third = third
lowered_of (Fraction bar) first second third = second

abbrev pub raised_field : Font → Picked → FieldBox
raised_field F q = raised_of q.kind (picked_first F q) (picked_second F q) (picked_third F q)

abbrev pub lowered_field : Font → Picked → FieldBox
lowered_field F q = lowered_of q.kind (picked_first F q) (picked_second F q) (picked_third F q)
