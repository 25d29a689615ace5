-- The box of a list (document 01, "List" and "Fields"; rule 20): items left to right, each from the shapes of its fields.
--     set_field    a field alone, at its own reference point: its shape and its nodes
--     signs_in     the sign of a root and the delimiters of a fence, searched as the first field asks for them
--     set_item     an item, placed behind what stands so far
--     set_items    items, one behind the other
--     set_list     a list, between the neighbours that it sees on its sides: none, or those of a fence (change request 4)
-- The style is a part of the line (change request 2): a style change ST sets it, and a choice C4 goes on with the line through the
-- list that its style takes, so that neither is an atom, and a style set in that list holds on behind the choice.
-- A symbol that the font lacks stands as `nothing` here; such a formula is refused before its box matters (`Missing`).
-- Assumes nothing.
use Rattle.std.specs.Prelude.{Bool, true, false, List, [], ◌∷◌, ◌++◌, ℕ, ◌+◌, ℤ, pos, ◌+ℤ◌}
use Rattle.std.proofs.Math.Option.{Option, none, some}
use Rattle.scaled.specs.Length.{max_ℤ}
use Rattle.font.specs.Font.{Font, Metrics}
use Rattle.formula.specs.declared.Class.{Class}
use Rattle.formula.specs.declared.Class.TheVariants.{Open, Close}
use Rattle.formula.specs.declared.Delimiter.{Delimiter}
use Rattle.formula.specs.declared.Base.{Base}
use Rattle.formula.specs.declared.Base.TheVariants.{Atom, Over, Under, Root, Fence}
use Rattle.formula.specs.declared.Kind.{Kind}
use Rattle.formula.specs.declared.Kind.TheVariants.{Scripted, Fraction}
use Rattle.formula.specs.Tree.{Items, Item, Field, nil, cons, noad, kern, restyle, choice, empty, symbol, list, choice_opening_bytes, list_opening_bytes, items_bytes}
use Rattle.formula.specs.Places.{second_list, third_list, fourth_list}
use Rattle.boxes.specs.declared.styles.Level.TheVariants.{Display, Text, Script, Scriptscript}
use Rattle.boxes.specs.declared.styles.Style.{Style}
use Rattle.boxes.specs.Styles.{style_of, font_size}
use Rattle.spacing.specs.Classes.{Neighbour, class_of, changed_class}
use Rattle.spacing.specs.Spacing.{space_before}
use Rattle.boxes.specs.Boxes.{Size, Shape, nothing, char, box, size_of, Offset, OwnNode, ruled, signed, Arranged, zero_size}
use Rattle.delimiters.specs.declared.HasSigns.{HasSigns}
use Rattle.delimiters.specs.Delimiters.{Signs, no_signs, sign_for, has_sign}
use Rattle.roots.specs.Roots.{sign_extent}
use Rattle.fences.specs.Fences.{fence_extent}
use Rattle.arrange.specs.declared.Manner.{Manner}
use Rattle.arrange.specs.declared.Manner.TheVariants.{Plain, Enlarged, Fenced}
use Rattle.arrange.specs.Arrange.{first_style, second_style, third_style, first_manner}
use Rattle.arrange_rules.specs.Arrange.{arrange}
use Rattle.nodes.specs.Nodes.{Node, glyph, rule, moved}

pub record Box : Type 0 where
  pub size : Size
  pub nodes : List Node

-- ---- symbols

-- a symbol that is set: its code, which may be a successor's, and its metrics
pub record Symbol : Type 0 where
  pub code : ℕ
  pub metrics : Metrics

unfoldable pub found : ℕ → Option Metrics → Option Symbol
found code none = none
found code (some m) = some record { code = code; metrics = m }

unfoldable pub successor : Font → ℕ → ℕ → Symbol → Option ℕ → Option Symbol
successor F size family s none = some s
successor F size family s (some next) = found next (F.symbol size family next)

-- a symbol gives way to its successor, if it has one, where it is enlarged
unfoldable pub enlarged : Font → ℕ → ℕ → Bool → Option Symbol → Option Symbol
enlarged F size family enlarge none = none
enlarged F size family true (some s) = successor F size family s s.metrics.successor
enlarged F size family false (some s) = some s

unfoldable pub symbol_in : Font → ℕ → Bool → ℕ → ℕ → Option Symbol
symbol_in F size enlarge family code = enlarged F size family enlarge (found code (F.symbol size family code))

-- ---- a field alone

pub record FieldBox : Type 0 where
  pub shape : Shape
  pub nodes : List Node

abbrev pub empty_field_box : FieldBox
empty_field_box = record { shape = nothing; nodes = [] }

unfoldable pub symbol_field_box : ℕ → ℕ → Option Symbol → FieldBox
symbol_field_box size family none = empty_field_box
symbol_field_box size family (some s) =
    record { shape = char s.metrics; nodes = glyph (pos 0) (pos 0) size family s.code ∷ [] }

-- ---- the sign of a root and the delimiters of a fence, which go by the shape of the first field; whether there are any does not
-- (`signs_found`)

abbrev pub signs_for : Font → Style → Delimiter → Delimiter → ℤ → Signs
signs_for F s left right needed =
    record { before = sign_for F (font_size s) left needed; behind = sign_for F (font_size s) right needed }

abbrev pub base_signs : Font → Style → Base → Shape → Signs
base_signs F s (Atom class limits) x = no_signs
base_signs F s Over x = no_signs
base_signs F s Under x = no_signs
base_signs F s (Root d) x =
    record { before = sign_for F (font_size s) d (sign_extent F.parameter s (size_of x)); behind = none }
base_signs F s (Fence left right) x = signs_for F s left right (fence_extent F.parameter s (size_of x))

abbrev pub unsigned : HasSigns
unsigned = record { before = false; behind = false }

abbrev pub base_has : Font → Style → Base → HasSigns
base_has F s (Atom class limits) = unsigned
base_has F s Over = unsigned
base_has F s Under = unsigned
base_has F s (Root d) = record { before = has_sign F (font_size s) d; behind = false }
base_has F s (Fence left right) =
    record { before = has_sign F (font_size s) left; behind = has_sign F (font_size s) right }

unfoldable pub signs_in : Font → Style → Kind → Shape → Signs
signs_in F s (Scripted base) x = base_signs F s base x
signs_in F s (Fraction bar) x = no_signs

unfoldable pub has_signs : Font → Style → Kind → HasSigns
has_signs F s (Scripted base) = base_has F s base
has_signs F s (Fraction bar) = unsigned

-- ---- an item, at its own reference point: its own nodes stand before and behind field 1, and fields 2 and 3 behind them

-- every node moved by one distance
abbrev pub moved_by : Offset → List Node → List Node
moved_by p ns = moved p.across p.up ns

abbrev pub own_node : OwnNode → Node
own_node (ruled r) = rule r.corner.across r.corner.up r.width r.thickness
own_node (signed g) = glyph g.place.across g.place.up g.size g.family g.code

unfoldable pub own_nodes : List OwnNode → List Node
own_nodes [] = []
own_nodes (o ∷ os) = own_node o ∷ own_nodes os

unfoldable pub item_nodes : Arranged → FieldBox → FieldBox → FieldBox → List Node
item_nodes a x y z =
    own_nodes a.own.before
    ++ moved_by a.first x.nodes
    ++ own_nodes a.own.behind
    ++ moved_by a.second y.nodes
    ++ moved_by a.third z.nodes

-- what the rules make of three shapes
abbrev pub arranged_in : Font → Style → Kind → Shape → Shape → Shape → Arranged
arranged_in F s kind x y z = arrange F.parameter s kind (signs_in F s kind x) x y z

unfoldable pub item_box : Font → Style → Kind → FieldBox → FieldBox → FieldBox → Box
item_box F s kind x y z =
    let a = arranged_in F s kind x.shape y.shape z.shape in
    record { size = a.size; nodes = item_nodes a x y z }

-- ---- the style current at an item

-- ST; a number that is no style does not occur in what reads
abbrev pub restyled : Style → ℕ → Style
restyled s number = elim (style_of number) [ none ↦ s | some new ↦ new ]

-- C4: of four, that of the style, prime aside
abbrev pub taken : {A : Type 0} → Style → A → A → A → A → A
taken s d t sc ss = elim s.level [ Display ↦ d | Text ↦ t | Script ↦ sc | Scriptscript ↦ ss ]

-- where that list stands in the choice, and where its items start
abbrev pub taken_place : Style → Items → Items → Items → ℕ
taken_place s d t sc = taken s choice_opening_bytes (second_list d) (third_list d t) (fourth_list d t sc)

abbrev pub taken_start : Style → Items → Items → Items → Items → ℕ
taken_start s d t sc ss = taken_place s d t sc + list_opening_bytes (items_bytes (taken s d t sc ss))

-- the style behind items, and behind an item, from the style before
unfoldable mutual
  pub style_after : Style → Items → Style
  style_after s nil = s
  style_after s (cons i r) = style_after (style_behind s i) r

  pub style_behind : Style → Item → Style
  style_behind s (noad kind x y z) = s
  style_behind s (kern n) = s
  style_behind s (restyle number) = restyled s number
  style_behind s (choice d t sc ss) = taken s (style_after s d) (style_after s t) (style_after s sc) (style_after s ss)

-- the class of the next atom, in a taken list too; at a list's end the neighbour beyond it
unfoldable mutual
  pub next_class : Style → Neighbour → Items → Neighbour
  next_class s beyond nil = beyond
  next_class s beyond (cons i r) = class_at s (next_class (style_behind s i) beyond r) i

  pub class_at : Style → Neighbour → Item → Neighbour
  class_at s beyond (noad kind x y z) = some (class_of kind)
  class_at s beyond (kern n) = beyond
  class_at s beyond (restyle number) = beyond
  class_at s beyond (choice d t sc ss) =
      taken s (next_class s beyond d) (next_class s beyond t) (next_class s beyond sc) (next_class s beyond ss)

-- ---- a list

-- what stands so far: the class of the last atom, the style, and the box. A list can go on from any line (`set_items`)
pub record Line : Type 0 where
  pub left : Neighbour
  pub style : Style
  pub box : Box

abbrev pub empty_box : Box
empty_box = record { size = zero_size; nodes = [] }

-- behind a neighbour
abbrev pub start : Neighbour → Style → Line
start left s = record { left = left; style = s; box = empty_box }

-- space, and then a box behind it
abbrev pub beside : Box → ℤ → Box → Box
beside b space c =
    let x = b.size.width +ℤ space in
    record {
      size =
          record {
            width = x +ℤ c.size.width;
            height = max_ℤ b.size.height c.size.height;
            depth = max_ℤ b.size.depth c.size.depth;
          };
      nodes = b.nodes ++ moved x (pos 0) c.nodes;
    }

abbrev pub kerned : Box → ℤ → Box
kerned b n =
    record {
      size = record { width = b.size.width +ℤ n; height = b.size.height; depth = b.size.depth };
      nodes = b.nodes;
    }

-- the class of an atom is changed between its neighbours, and space goes before it, of the style current at it
unfoldable pub placed : Font → Neighbour → Line → Class → Box → Line
placed F right l class b =
    let c = changed_class l.left class right in
    record {
      left = some c;
      style = l.style;
      box = beside l.box (space_before F.parameter l.style l.left c) b;
    }

-- ---- the sides of a list: the atoms that it sees before its first and behind its last, though they are not in it

pub record Sides : Type 0 where
  pub left : Neighbour
  pub right : Neighbour

abbrev pub no_sides : Sides
no_sides = record { left = none; right = none }

-- within a fence (rule 19)
abbrev pub fence_sides : Sides
fence_sides = record { left = some Open; right = some Close }

abbrev pub sides_of : Manner → Sides
sides_of Plain = no_sides
sides_of Enlarged = no_sides
sides_of Fenced = fence_sides

-- the space before the atom on the right counts in the list's width; s is the style in which the list starts
abbrev pub closed : Font → Style → Neighbour → Line → Box
closed F s none l = l.box
closed F s (some class) l = kerned l.box (space_before F.parameter s l.left class)

-- whether a symbol gives way to its successor
abbrev pub is_enlarged : Manner → Bool
is_enlarged Plain = false
is_enlarged Enlarged = true
is_enlarged Fenced = false

unfoldable mutual
  pub set_items : Font → Neighbour → Line → Items → Line
  set_items F beyond l nil = l
  set_items F beyond l (cons i r) =
      set_items F beyond (set_item F (next_class (style_behind l.style i) beyond r) l i) r

  pub set_item : Font → Neighbour → Line → Item → Line
  set_item F right l (noad kind x y z) =
      let s = l.style in
      placed F right l (class_of kind)
      (item_box F s kind
      (set_field F (first_style kind s) (first_manner kind s) x)
      (set_field F (second_style kind s) Plain y)
      (set_field F (third_style s) Plain z))
  set_item F right l (kern n) = record { left = l.left; style = l.style; box = kerned l.box n }
  set_item F right l (restyle number) =
      record { left = l.left; style = restyled l.style number; box = l.box }
  set_item F right l (choice d t sc ss) =
      taken l.style (set_items F right l d) (set_items F right l t) (set_items F right l sc) (set_items F right l ss)

  pub set_field : Font → Style → Manner → Field → FieldBox
  set_field F s manner empty = empty_field_box
  set_field F s manner (symbol family code) =
      symbol_field_box (font_size s) family (symbol_in F (font_size s) (is_enlarged manner) family code)
  set_field F s manner (list l) =
      let sides = sides_of manner in
      let b = closed F s sides.right (set_items F sides.right (start sides.left s) l) in
      record { shape = box b.size; nodes = b.nodes }

unfoldable pub set_list : Font → Sides → Style → Items → Box
set_list F sides s l = closed F s sides.right (set_items F sides.right (start sides.left s) l)
