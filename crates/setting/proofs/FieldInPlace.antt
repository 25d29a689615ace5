-- A list within a formula stands there as it is set alone: the laws of `specs/FieldInPlace.antt`.
-- Assumes nothing.
use Rattle.std.specs.Prelude.{◌≡◌, pos, ◌+ℤ◌}
use Rattle.std.proofs.Math.Path.{refl, ap}
use Rattle.std.proofs.Common.{sym, ap₂, ◌∙◌}
use mathlib.Core.List.{List, [], ◌++◌, append-nil, append_assoc}
use Rattle.std.proofs.Math.Option.{none, some}
use Rattle.font.specs.Font.{Font}
use Rattle.formula.specs.declared.Kind.{Kind}
use Rattle.formula.specs.Tree.{Items, Item, Field, nil, cons, noad, kern, restyle, choice, list}
use Rattle.boxes.specs.declared.styles.Style.{Style}
use Rattle.spacing.specs.Classes.{Neighbour, class_of, changed_class}
use Rattle.spacing.specs.Spacing.{space_before}
use Rattle.boxes.specs.Boxes.{Size, box, Offset, Arranged, at}
use Rattle.arrange.specs.declared.Manner.TheVariants.{Plain}
use Rattle.arrange.specs.Arrange.{first_style, second_style, third_style, first_manner}
use Rattle.nodes.specs.Nodes.{Node}
use Rattle.setting.specs.Setting.{Box, FieldBox, Line, style_behind, next_class, class_at, empty_box, start, moved_by, arranged_in, item_box, placed, Sides, no_sides, sides_of, closed, set_items, set_item, set_field, set_list}
use Rattle.setting.proofs.SettingLaws.{taken_all, set_items_style}
use Rattle.setting.specs.Frames.{Frame, framed, bare, nest, framed_bare, framed_nest, first_frame, second_frame, third_frame, first_framed, second_framed, third_framed}
use Rattle.setting.specs.Paths.{Arm, in_first, in_second, in_third, holding, field_style, field_manner, Spot, put, items_before, items_after, spot_style, Step, list_with, item_style, step_style, step_sides, Path, whole, into, fill, style_at, sides_at}
use Rattle.setting.proofs.Lines.{set_items_join, spot_in_place}
use Rattle.setting.specs.FieldInPlace as defs
use Rattle.setting.specs.FieldInPlace.{list_field_box, sized, after_nodes, without_nodes, item_set, list_frame}

-- ---- the item that holds a list
-- the three fields of an item in the style s
module _ (F : Font) (s : Style) (kind : Kind) where
  abbrev first_box : Field → FieldBox
  first_box = defs.first_box F s kind

  abbrev second_box : Field → FieldBox
  second_box = defs.second_box F s kind

  abbrev third_box : Field → FieldBox
  third_box = defs.third_box F s kind

  abbrev arranged_around : Arm → Size → Arranged
  arranged_around = defs.arranged_around F s kind

  abbrev item_frame : Arm → Size → Frame
  item_frame = defs.item_frame F s kind

  abbrev item_around : Arm → Box → Box
  item_around = defs.item_around F s kind

  item_size_lem : (g : Arm) (b : Box) → (item_around g b).size ≡ (arranged_around g b.size).size
  unfolding item_box
  item_size_lem (in_first y z) b = refl
  item_size_lem (in_second x z) b = refl
  item_size_lem (in_third x y) b = refl

  item_nodes_lem : (g : Arm) (b : Box) → (item_around g b).nodes ≡ framed (item_frame g b.size) b.nodes
  unfolding item_box
  item_nodes_lem (in_first y z) b =
      first_framed (arranged_around (in_first y z) b.size) (list_field_box b) (second_box y) (third_box z)
  item_nodes_lem (in_second x z) b =
      second_framed (arranged_around (in_second x z) b.size) (first_box x) (list_field_box b) (third_box z)
  item_nodes_lem (in_third x y) b =
      third_framed (arranged_around (in_third x y) b.size) (first_box x) (second_box y) (list_field_box b)

  pub item_in_place : (g : Arm) (b : Box) →
      item_around g b ≡ sized (arranged_around g b.size).size (framed (item_frame g b.size) b.nodes)
  item_in_place g b = ap₂ sized (item_size_lem g b) (item_nodes_lem g b)

-- in a line of any style
pub size_used : (F : Font) (right : Neighbour) (line : Line) (kind : Kind) (g : Arm) (l : Items) →
    let s = line.style in
    set_item F right line (holding kind g l)
    ≡ placed F right line (class_of kind) (item_around F s kind g (set_list F (sides_of (field_manner kind g s)) (field_style kind g s) l))
unfolding set_item set_field set_list
size_used F right line kind (in_first y z) l = refl
size_used F right line kind (in_second x z) l = refl
size_used F right line kind (in_third x y) l = refl

module _ (F : Font) where
  mutual
    unfolding set_items set_item placed

    pub set_items_after : (beyond : Neighbour) (ns : List Node) (line : Line) (r : Items) →
        set_items F beyond (after_nodes ns line) r ≡ after_nodes ns (set_items F beyond line r)
    set_items_after beyond ns line nil = refl
    set_items_after beyond ns line (cons i r) =
        let right = next_class (style_behind line.style i) beyond r in
        ap (λ (m : Line). set_items F beyond m r) (set_item_after right ns line i)
        ∙ set_items_after beyond ns (set_item F right line i) r

    pub set_item_after : (right : Neighbour) (ns : List Node) (line : Line) (i : Item) →
        set_item F right (after_nodes ns line) i ≡ after_nodes ns (set_item F right line i)
    set_item_after right ns line (noad kind x y z) = simp append_assoc
    set_item_after right ns line (kern n) = refl
    set_item_after right ns line (restyle number) = refl
    set_item_after right ns line (choice d t sc ss) =
        sym (taken_all (after_nodes ns) line.style (sym (set_items_after right ns line d)) (sym (set_items_after right ns line t))
        (sym (set_items_after right ns line sc)) (sym (set_items_after right ns line ss)))

-- ---- the list that holds the item, which is of the size z, between its own sides
module _ (F : Font) (sides : Sides) (s : Style) (spot : Spot) (kind : Kind) where
  abbrev line_before : Line
  line_before = defs.line_before F sides s spot kind

  abbrev class_behind : Neighbour
  class_behind = defs.class_behind F sides s spot kind

  abbrev line_up_to : Box → Line
  line_up_to = defs.line_up_to F sides s spot kind

  abbrev item_offset : Offset
  item_offset = defs.item_offset F sides s spot kind

  abbrev line_after : Size → Line
  line_after = defs.line_after F sides s spot kind

  abbrev list_size : Size → Size
  list_size = defs.list_size F sides s spot kind

  abbrev list_around : Box → Box
  list_around = defs.list_around F sides s spot kind

  line_up_to_after : (b : Box) →
      line_up_to b
      ≡ after_nodes (line_before.box.nodes ++ moved_by item_offset b.nodes) (without_nodes (line_up_to (sized b.size [])))
  unfolding placed
  line_up_to_after b = simp append-nil

  -- the item, behind the line before it
  line_with_item : (x y z : Field) → set_item F class_behind line_before (noad kind x y z) ≡ line_up_to (item_set F (spot_style s spot) kind x y z)
  unfolding set_item
  line_with_item x y z =
      ap (λ (u : Style). line_up_to (item_set F u kind x y z)) (set_items_style F (some (class_of kind)) (start sides.left s) (items_before spot))

  -- the item is an atom, and leaves the style
  line_through_item : (x y z : Field) →
      set_items F sides.right (start sides.left s) (put s spot (noad kind x y z))
      ≡ set_items F sides.right (line_up_to (item_set F (spot_style s spot) kind x y z)) (items_after spot)
  unfolding set_items next_class class_at style_behind
  line_through_item x y z =
      let i = noad kind x y z in
      let right = sides.right in
      let rest = items_after spot in
      (spot_in_place s spot i).set_is F right sides.left empty_box
      ∙ set_items_join F right (start sides.left s) (items_before spot) (cons i rest)
      ∙ ap (λ (u : Style). set_items F right (set_item F (next_class u right rest) line_before i) rest)
      (set_items_style F (some (class_of kind)) (start sides.left s) (items_before spot))
      ∙ ap (λ (m : Line). set_items F right m rest) (line_with_item x y z)

  line_behind_item : (b : Box) →
      set_items F sides.right (line_up_to b) (items_after spot)
      ≡ after_nodes (line_before.box.nodes ++ moved_by item_offset b.nodes) (line_after b.size)
  line_behind_item b =
      ap (λ (m : Line). set_items F sides.right m (items_after spot)) (line_up_to_after b)
      ∙ set_items_after F sides.right (line_before.box.nodes ++ moved_by item_offset b.nodes)
      (without_nodes (line_up_to (sized b.size []))) (items_after spot)

  -- the space at a list's end changes none of its nodes
  closed_after : (right : Neighbour) (ns : List Node) (line : Line) →
      closed F s right (after_nodes ns line) ≡ sized (closed F s right line).size (ns ++ line.box.nodes)
  closed_after none ns line = refl
  closed_after (some class) ns line = refl

  pub list_in_place : (x y z : Field) →
      set_list F sides s (put s spot (noad kind x y z)) ≡ list_around (item_set F (spot_style s spot) kind x y z)
  unfolding set_list
  list_in_place x y z =
      let b = item_set F (spot_style s spot) kind x y z in
      ap (closed F s sides.right) (line_through_item x y z ∙ line_behind_item b)
      ∙ closed_after sides.right (line_before.box.nodes ++ moved_by item_offset b.nodes) (line_after b.size)
      ∙ ap (sized (list_size b.size))
      (append_assoc line_before.box.nodes (moved_by item_offset b.nodes) (line_after b.size).box.nodes)

-- where the item holds a list
holder_in_place : (F : Font) (sides : Sides) (s : Style) (t : Step) (l : Items) →
    set_list F sides s (list_with s t l)
    ≡ list_around F sides s t.spot t.kind
    (item_around F (item_style s t) t.kind t.arm (set_list F (step_sides s t) (step_style s t) l))
unfolding set_field set_list
holder_in_place F sides s t l = go t.arm
  where
    go : (g : Arm) →
        let u = item_style s t in
        set_list F sides s (put s t.spot (holding t.kind g l))
        ≡ list_around F sides s t.spot t.kind
        (item_around F u t.kind g (set_list F (sides_of (field_manner t.kind g u)) (field_style t.kind g u) l))
    go (in_first y z) = list_in_place F sides s t.spot t.kind (list l) y z
    go (in_second x z) = list_in_place F sides s t.spot t.kind x (list l) z
    go (in_third x y) = list_in_place F sides s t.spot t.kind x y (list l)

-- ---- the whole, by the path to a list of the size z within it
module _ (F : Font) where
  -- one step: the size of the list that holds the field, and what stands in it around the field
  module _ (sides : Sides) (s : Style) (t : Step) where
    abbrev item_size : Size → Size
    item_size = defs.item_size F sides s t

    abbrev step_size : Size → Size
    step_size = defs.step_size F sides s t

    abbrev step_frame : Size → Frame
    step_frame = defs.step_frame F sides s t

    step_in_place : (l : Items) →
        let b = set_list F (step_sides s t) (step_style s t) l in
        set_list F sides s (list_with s t l) ≡ sized (step_size b.size) (framed (step_frame b.size) b.nodes)
    step_in_place l =
        let b = set_list F (step_sides s t) (step_style s t) l in
        holder_in_place F sides s t l
        ∙ ap (list_around F sides s t.spot t.kind) (item_in_place F (item_style s t) t.kind t.arm b)
        ∙ ap (sized (step_size b.size))
        (framed_nest (list_frame F sides s t.spot t.kind (item_size b.size))
        (item_frame F (item_style s t) t.kind t.arm b.size) b.nodes)

  module _ (s : Style) where
    abbrev size_around : Path → Size → Size
    size_around = defs.size_around F s

    abbrev frame : Path → Size → Frame
    frame = defs.frame F s

    abbrev box_around : Path → Box → Box
    box_around = defs.box_around F s

    pub field_in_place : (p : Path) (l : Items) →
        set_list F no_sides s (fill s p l) ≡ box_around p (set_list F (sides_at s p) (style_at s p) l)
    field_in_place whole l = let b = set_list F no_sides s l in ap (sized b.size) (sym (framed_bare b.nodes))
    field_in_place (into p t) l =
        let b = set_list F (sides_at s (into p t)) (style_at s (into p t)) l in
        field_in_place p (list_with (style_at s p) t l)
        ∙ ap (box_around p) (step_in_place (sides_at s p) (style_at s p) t l)
        ∙ ap (sized (size_around (into p t) b.size))
        (framed_nest (frame p (step_size (sides_at s p) (style_at s p) t b.size)) (step_frame (sides_at s p) (style_at s p) t b.size) b.nodes)

    -- another list of the size that the first has
    pub same_frame : (p : Path) (l m : Items) →
        let alone = set_list F (sides_at s p) (style_at s p) in
        let size = (alone l).size in
        (alone m).size ≡ size → set_list F no_sides s (fill s p m) ≡ sized (size_around p size) (framed (frame p size) (alone m).nodes)
    same_frame p l m e =
        let ns = (set_list F (sides_at s p) (style_at s p) m).nodes in
        field_in_place p m ∙ ap (λ (z : Size). sized (size_around p z) (framed (frame p z) ns)) e
