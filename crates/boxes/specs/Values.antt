-- What the values of the code stand for in the definitions: each struct and enum is read by a function of its own.
-- Assumes nothing.
use Rattle.std.specs.Prelude.{List, [], ◌∷◌, ◌++◌, ℕ, Option, Some, None}
use Rattle.std.proofs.Math.Option.{none, some}
use Rattle.std.proofs.Math.Option.{Option as OptionOf}
use Rattle.font.specs.Values.{metrics_as}
unfoldable pub use Rattle.font.specs.Values.{parameters_in}
use Rattle.boxes.specs.declared.styles.Style.{Style}
use Rattle.boxes.specs.declared.parameters.Dimension.{Dimension}
use Rattle.boxes.specs.declared.parameters.Dimension.TheVariants.{Slant, Space, Stretch, Shrink, XHeight, Quad, ExtraSpace, Num1, Num2, Num3, Denom1, Denom2, Sup1, Sup2, Sup3, Sub1, Sub2, SupDrop, SubDrop, Delim1, Delim2, AxisHeight, ExtensionSlant, ExtensionSpace, ExtensionStretch, ExtensionShrink, ExtensionXHeight, ExtensionQuad, ExtensionExtraSpace, RuleThickness, BigOpSpacing1, BigOpSpacing2, BigOpSpacing3, BigOpSpacing4, BigOpSpacing5}
use Rattle.boxes.specs.declared.Size.{Size}
use Rattle.boxes.specs.declared.Shape.{Shape}
use Rattle.boxes.specs.declared.Shape.TheVariants.{Nothing, Char, Box}
use Rattle.boxes.specs.declared.Offset.{Offset}
use Rattle.boxes.specs.declared.Shifts.{Shifts}
use Rattle.boxes.specs.declared.Rule.{Rule}
use Rattle.boxes.specs.declared.Glyph.{Glyph}
use Rattle.boxes.specs.declared.Owned.{Owned}
use Rattle.boxes.specs.declared.Own.{Own}
use Rattle.boxes.specs.declared.Arranged.{Arranged}
use Rattle.boxes.specs.Boxes.{nothing, char, box, OwnNode, ruled, signed}
use Rattle.boxes.specs.Boxes.{Size as SizeOf, Shape as ShapeOf, Offset as OffsetOf, Shifts as ShiftsOf, Rule as RuleOf, Glyph as GlyphOf, Own as OwnOf, Arranged as ArrangedOf}

abbrev pub numbered_as : Option Style → OptionOf Style
numbered_as None = none
numbered_as (Some s) = some s

-- the number of a parameter in its row
abbrev pub number_of : Dimension → ℕ
number_of Slant = 0
number_of Space = 1
number_of Stretch = 2
number_of Shrink = 3
number_of XHeight = 4
number_of Quad = 5
number_of ExtraSpace = 6
number_of Num1 = 7
number_of Num2 = 8
number_of Num3 = 9
number_of Denom1 = 10
number_of Denom2 = 11
number_of Sup1 = 12
number_of Sup2 = 13
number_of Sup3 = 14
number_of Sub1 = 15
number_of Sub2 = 16
number_of SupDrop = 17
number_of SubDrop = 18
number_of Delim1 = 19
number_of Delim2 = 20
number_of AxisHeight = 21
number_of ExtensionSlant = 22
number_of ExtensionSpace = 23
number_of ExtensionStretch = 24
number_of ExtensionShrink = 25
number_of ExtensionXHeight = 26
number_of ExtensionQuad = 27
number_of ExtensionExtraSpace = 28
number_of RuleThickness = 29
number_of BigOpSpacing1 = 30
number_of BigOpSpacing2 = 31
number_of BigOpSpacing3 = 32
number_of BigOpSpacing4 = 33
number_of BigOpSpacing5 = 34

abbrev pub size_as : Size → SizeOf
size_as z = record { width = z.width.0; height = z.height.0; depth = z.depth.0 }

abbrev pub shape_as : Shape → ShapeOf
shape_as Nothing = nothing
shape_as (Char m) = char (metrics_as m)
shape_as (Box z) = box (size_as z)

abbrev pub script_as : Option Size → OptionOf SizeOf
script_as None = none
script_as (Some z) = some (size_as z)

abbrev pub offset_as : Offset → OffsetOf
offset_as p = record { across = p.across.0; up = p.up.0 }

abbrev pub shifts_as : Shifts → ShiftsOf
shifts_as t = record { up = t.up.0; down = t.down.0 }

abbrev pub rule_as : Rule → RuleOf
rule_as r = record { corner = offset_as r.corner; width = r.width.0; thickness = r.thickness.0 }

abbrev pub ruling_as : Option Rule → List OwnNode
ruling_as None = []
ruling_as (Some r) = ruled (rule_as r) ∷ []

abbrev pub glyph_as : Glyph → GlyphOf
glyph_as g = record { place = offset_as g.place; size = g.size; family = g.family; code = g.code }

abbrev pub signing_as : Option Glyph → List OwnNode
signing_as None = []
signing_as (Some g) = signed (glyph_as g) ∷ []

-- a sign stands before a rule
abbrev pub owned_as : Owned → List OwnNode
owned_as o = signing_as o.sign ++ ruling_as o.ruling

abbrev pub own_as : Own → OwnOf
own_as o = record { before = owned_as o.before; behind = owned_as o.behind }

abbrev pub arranged_as : Arranged → ArrangedOf
arranged_as a =
    record {
      size = size_as a.size;
      first = offset_as a.first;
      second = offset_as a.second;
      third = offset_as a.third;
      own = own_as a.own;
    }
