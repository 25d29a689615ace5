-- A list field in the whole, as it stands alone: demand 3 of trees, but for what is accepted (`FieldAlone`).
--     size_used        the rules arrange the item that holds the field from the size of the list set alone, and see
--                      nothing else of the list
--     list_in_place    a list's nodes are a frame around those of an item at a spot of it; the frame goes by the spot, the item's kind and its
--                      size, whatever its fields are (`ItemOnPage` says it of the whole)
--     field_in_place   the whole's nodes are a frame around the nodes of the list set alone; the frame goes by the path and
--                      the size of that list, so that another list of that size has the same frame (`same_frame`)
-- The proof looks at the three fields of an item and never at its kind: an item comes from three shapes by `arranged_in`, the
-- delimiters of a root and of a fence too, and its nodes come in one order. What a list adds behind an item goes by the item's class and size alone (`set_items_after`). An item in the
-- taken list of a choice is set as if it stood in the choice's place (`spot_in_place` of `Lines`), so that a choice moves nothing.
-- Assumes nothing.
use Rattle.std.specs.Prelude.{◌≡◌, pos, ◌+ℤ◌}
use Rattle.std.proofs.Math.Path.{refl, ap}
use Rattle.std.proofs.Common.{sym, ap₂, ◌∙◌}
use mathlib.Core.List.{List, [], ◌++◌, append-nil, append_assoc}
use Rattle.std.proofs.Math.Option.{none, some}
use Rattle.font.specs.Font.{Font}
use Rattle.formula.specs.declared.Kind.{Kind}
use Rattle.formula.specs.Tree.{Items, Item, Field, nil, cons, noad, kern, restyle, choice, list}
use Rattle.boxes.specs.declared.styles.Style.{Style}
use Rattle.spacing.specs.Classes.{Neighbour, class_of, changed_class}
use Rattle.spacing.specs.Spacing.{space_before}
use Rattle.boxes.specs.Boxes.{Size, box, Offset, Arranged, at}
use Rattle.arrange.specs.declared.Manner.TheVariants.{Plain}
use Rattle.arrange.specs.Arrange.{first_style, second_style, third_style, first_manner}
use Rattle.nodes.specs.Nodes.{Node}
use Rattle.setting.specs.Setting.{Box, FieldBox, Line, style_behind, next_class, class_at, empty_box, start, moved_by, arranged_in, item_box, placed, Sides, no_sides, sides_of, closed, set_items, set_item, set_field, set_list}
use Rattle.setting.specs.Frames.{Frame, framed, bare, nest, framed_bare, framed_nest, first_frame, second_frame, third_frame, first_framed, second_framed, third_framed}
use Rattle.setting.specs.Paths.{Arm, in_first, in_second, in_third, holding, field_style, field_manner, Spot, put, items_before, items_after, spot_style, Step, list_with, item_style, step_style, step_sides, Path, whole, into, fill, style_at, sides_at}

abbrev pub list_field_box : Box → FieldBox
list_field_box b = record { shape = box b.size; nodes = b.nodes }

abbrev pub sized : Size → List Node → Box
sized size nodes = record { size = size; nodes = nodes }

-- ---- the item that holds a list
-- the three fields of an item in the style s
module _ (F : Font) (s : Style) (kind : Kind) where
  abbrev pub first_box : Field → FieldBox
  first_box x = set_field F (first_style kind s) (first_manner kind s) x

  abbrev pub second_box : Field → FieldBox
  second_box y = set_field F (second_style kind s) Plain y

  abbrev pub third_box : Field → FieldBox
  third_box z = set_field F (third_style s) Plain z

  abbrev pub item_set : Field → Field → Field → Box
  item_set x y z = item_box F s kind (first_box x) (second_box y) (third_box z)

  -- what the rules make of it: the list is its size to them
  abbrev pub arranged_around : Arm → Size → Arranged
  arranged_around (in_first y z) size =
      arranged_in F s kind (box size) (second_box y).shape (third_box z).shape
  arranged_around (in_second x z) size =
      arranged_in F s kind (first_box x).shape (box size) (third_box z).shape
  arranged_around (in_third x y) size =
      arranged_in F s kind (first_box x).shape (second_box y).shape (box size)

  -- its own nodes, and those of its other fields, around the list's
  abbrev pub item_frame : Arm → Size → Frame
  item_frame (in_first y z) size = first_frame (arranged_around (in_first y z) size) (second_box y) (third_box z)
  item_frame (in_second x z) size = second_frame (arranged_around (in_second x z) size) (first_box x) (third_box z)
  item_frame (in_third x y) size = third_frame (arranged_around (in_third x y) size) (first_box x) (second_box y)

  -- the item around a list of the box b: the list stands in it as a part of that size
  abbrev pub item_around : Arm → Box → Box
  item_around (in_first y z) b = item_box F s kind (list_field_box b) (second_box y) (third_box z)
  item_around (in_second x z) b = item_box F s kind (first_box x) (list_field_box b) (third_box z)
  item_around (in_third x y) b = item_box F s kind (first_box x) (second_box y) (list_field_box b)

-- ---- a line is a fold: what stands so far is left alone, and what is added goes by the last class, the style and the width

abbrev pub after_nodes : List Node → Line → Line
after_nodes ns line =
    record { left = line.left; style = line.style; box = sized line.box.size (ns ++ line.box.nodes) }

abbrev pub without_nodes : Line → Line
without_nodes line = record { left = line.left; style = line.style; box = sized line.box.size [] }

-- ---- the list that holds the item, which is of the size z, between its own sides
module _ (F : Font) (sides : Sides) (s : Style) (spot : Spot) (kind : Kind) where
  -- the items before it; it is the class beyond them
  abbrev pub line_before : Line
  line_before = set_items F (some (class_of kind)) (start sides.left s) (items_before spot)

  -- the class behind it
  abbrev pub class_behind : Neighbour
  class_behind = next_class (spot_style s spot) sides.right (items_after spot)

  -- with the item of the box b
  abbrev pub line_up_to : Box → Line
  line_up_to b = placed F class_behind line_before (class_of kind) b

  -- where the item stands in the line
  abbrev pub item_offset : Offset
  item_offset =
      let class = changed_class line_before.left (class_of kind) class_behind in
      at (line_before.box.size.width +ℤ space_before F.parameter line_before.style line_before.left class) (pos 0)

  -- what the items after it add
  abbrev pub line_after : Size → Line
  line_after z = set_items F sides.right (without_nodes (line_up_to (sized z []))) (items_after spot)

  abbrev pub list_frame : Size → Frame
  list_frame z = record { before = line_before.box.nodes; distance = item_offset; after = (line_after z).box.nodes }

  abbrev pub list_size : Size → Size
  list_size z = (closed F s sides.right (line_after z)).size

  abbrev pub list_around : Box → Box
  list_around b = sized (list_size b.size) (framed (list_frame b.size) b.nodes)

-- ---- the whole, by the path to a list of the size z within it
module _ (F : Font) where
  -- one step: the size of the list that holds the field, and what stands in it around the field
  module _ (sides : Sides) (s : Style) (t : Step) where
    abbrev pub item_size : Size → Size
    item_size z = (arranged_around F (item_style s t) t.kind t.arm z).size

    abbrev pub step_size : Size → Size
    step_size z = list_size F sides s t.spot t.kind (item_size z)

    abbrev pub step_frame : Size → Frame
    step_frame z =
        nest (list_frame F sides s t.spot t.kind (item_size z)) (item_frame F (item_style s t) t.kind t.arm z)

  module _ (s : Style) where
    abbrev pub size_around : Path → Size → Size
    size_around whole z = z
    size_around (into p t) z = size_around p (step_size (sides_at s p) (style_at s p) t z)

    abbrev pub frame : Path → Size → Frame
    frame whole z = bare
    frame (into p t) z = nest (frame p (step_size (sides_at s p) (style_at s p) t z)) (step_frame (sides_at s p) (style_at s p) t z)

    abbrev pub box_around : Path → Box → Box
    box_around p b = sized (size_around p b.size) (framed (frame p b.size) b.nodes)
