-- What the functions ask and promise that arrange an item whose fields are set, and put it behind a line (`Finished`).
-- Assumes nothing.
use Rattle.std.specs.Prelude.{◌≡◌, ◌||◌, Option, Some, List, [], ◌∷◌, ℕ, ◌+◌, ◌^◌, ◌≤◌, ◌<◌, ℤ, pos, ◌+ℤ◌, length}
use Rattle.scaled.specs.Signed.{Within}
use Rattle.formula.specs.declared.Class.{Class}
use Rattle.formula.specs.declared.Kind.{Kind}
use Rattle.formula.specs.Format.{formula_limit}
use Rattle.boxes.specs.declared.styles.Style.{Style}
use Rattle.boxes.specs.declared.Offset.{Offset as CodeOffset}
use Rattle.boxes.specs.declared.Glyph.{Glyph}
use Rattle.boxes.specs.declared.Rule.{Rule}
use Rattle.boxes.specs.declared.Owned.{Owned}
use Rattle.boxes.specs.declared.Arranged.{Arranged as CodeArranged}
use Rattle.boxes.specs.Parameters.{Parameters}
use Rattle.spacing.specs.Classes.{Neighbour, class_of, changed_class}
use Rattle.spacing.specs.Spacing.{space_before}
use Rattle.boxes.specs.Boxes.{Offset, OwnNode, Arranged}
use Rattle.delimiters.specs.Delimiters.{Signs}
use Rattle.arrange.specs.Arrange.{arrange}
use Rattle.boxes.specs.Values.{size_as, shape_as, arranged_as}
use Rattle.spacing.specs.Values.{neighbour_as}
use Rattle.boxes.specs.Bounds.{words, item_words, OffsetWithin, SigningWithin, RulingWithin, OwnedWithin, Bounded}
use Rattle.nodes.specs.declared.run.Run.{Run}
use Rattle.nodes.specs.Nodes.{moved_node, moved}
use Rattle.nodes.specs.Bounds.{greatest_length}
use Rattle.nodes.specs.Buffer.{put, moved_front, behind_nodes}
use Rattle.nodes.specs.Hull.{Hull, none as unreached, joined, moved_hull, hull, HullWithin}
use Rattle.nodes.specs.Values.{hull_of, is_large}
use Rattle.setting.specs.Setting.{own_node, own_nodes}
use Rattle.walk_fields.specs.declared.fields.FieldBox as fields
use Rattle.walk_fields.specs.declared.lines.Line as lines
use Rattle.walk_fields.specs.Bounds.{LineWithin}
use Rattle.walk_fields.specs.Fields.{FieldBoxWithin}
use Rattle.walk_fields.specs.Lines.{beside_size}
use Rattle.walk_items.specs.declared.Placing.{Placing}

-- its class, its x and its arrangement A, behind a line whose last atom is `left`
pub record PlacingIs (P : Parameters) (s : Style) (kind : Kind) (right left : Neighbour) (width : ℤ) (A : Arranged) (c : Placing) : Type 0 where
  pub class_is : c.class ≡ changed_class left (class_of kind) right
  pub space : Within (words 1) (space_before P s left c.class)
  pub x_is : c.x.0 ≡ width +ℤ space_before P s left c.class
  pub arranged_is : arranged_as c.arranged ≡ A
  pub bounded : Bounded c.arranged

-- a field's nodes behind others, and where they are to go
pub record MoveGiven (before part : Run) (x : ℤ) (p : CodeOffset) : Type 0 where
  pub few : before.count + part.count < 2 ^ 64
  pub hull : HullWithin greatest_length (hull_of part)
  pub x_small : Within (2 ^ 54) x
  pub place : OffsetWithin item_words p

pub record FieldMoved (before part : Run) (x : ℤ) (p : Offset) (r : Run) (b b' : List ℕ) : Type 0 where
  pub count_is : r.count ≡ before.count + part.count
  pub large_is : is_large r ≡ (is_large before || is_large part)
  pub hull_is : hull_of r ≡ joined (hull_of before) (moved_hull (x +ℤ p.across) p.up (hull_of part))
  pub buffer_is : b' ≡ behind_nodes before.count (moved_front (x +ℤ p.across) p.up part.count) b

-- an item's own nodes behind n others, where the item stands at x
unfoldable pub own_put : ℤ → ℕ → List OwnNode → List ℕ → List ℕ
own_put x n [] b = b
own_put x n (o ∷ os) b = own_put x (n + 1) os (behind_nodes n (put (moved_node x (pos 0) (own_node o))) b)

pub record SigningGiven (before : Run) (own : Option Glyph) (x : ℤ) : Type 0 where
  pub few : before.count + 1 < 2 ^ 64
  pub sign : SigningWithin item_words own
  pub x_small : Within (2 ^ 54) x

pub record RulingGiven (before : Run) (own : Option Rule) (x : ℤ) : Type 0 where
  pub few : before.count + 1 < 2 ^ 64
  pub rules : RulingWithin item_words own
  pub x_small : Within (2 ^ 54) x

pub record OwnGiven (before : Run) (own : Owned) (x : ℤ) : Type 0 where
  pub few : before.count + 2 < 2 ^ 64
  pub near : OwnedWithin item_words own
  pub x_small : Within (2 ^ 54) x

pub record OwnPut (before : Run) (os : List OwnNode) (x : ℤ) (r : Run) (b b' : List ℕ) : Type 0 where
  pub count_is : r.count ≡ before.count + length os
  pub large_is : is_large r ≡ is_large before
  pub hull_is : hull_of r ≡ joined (hull_of before) (hull (moved x (pos 0) (own_nodes os)))
  pub buffer_is : b' ≡ own_put x before.count os b

-- an item arranged as A at x, whose fields have i, j and k nodes
module _ (x : ℤ) (A : Arranged) (i j k : ℕ) where
  abbrev pub first_at : ℕ
  first_at = length A.own.before

  abbrev pub behind_at : ℕ
  behind_at = first_at + i

  abbrev pub second_at : ℕ
  second_at = behind_at + length A.own.behind

  abbrev pub third_at : ℕ
  third_at = second_at + j

  abbrev pub item_count : ℕ
  item_count = third_at + k

  -- what becomes of the buffer: the fields' nodes are moved, and the item's own put in front of and behind the first field's
  abbrev pub item_buffer : List ℕ → List ℕ
  item_buffer b =
      behind_nodes third_at (moved_front (x +ℤ A.third.across) A.third.up k)
      (behind_nodes second_at (moved_front (x +ℤ A.second.across) A.second.up j)
      (own_put x behind_at A.own.behind
      (behind_nodes first_at (moved_front (x +ℤ A.first.across) A.first.up i)
      (own_put x 0 A.own.before b))))

-- how far its nodes reach, from how far its fields do
abbrev pub item_hull : ℤ → Arranged → Hull → Hull → Hull → Hull
item_hull x A f g h =
    joined
    (joined
    (joined
    (joined (joined unreached (hull (moved x (pos 0) (own_nodes A.own.before))))
    (moved_hull (x +ℤ A.first.across) A.first.up f))
    (hull (moved x (pos 0) (own_nodes A.own.behind))))
    (moved_hull (x +ℤ A.second.across) A.second.up g))
    (moved_hull (x +ℤ A.third.across) A.third.up h)

pub record PutGiven (x : ℤ) (A : CodeArranged) (a b c : Run) : Type 0 where
  pub few : a.count + b.count + c.count ≤ formula_limit
  pub first : HullWithin greatest_length (hull_of a)
  pub second : HullWithin greatest_length (hull_of b)
  pub third : HullWithin greatest_length (hull_of c)
  pub x_small : Within (2 ^ 54) x
  pub bounded : Bounded A

pub record ItemPut (x : ℤ) (A : Arranged) (a b c r : Run) (v v' : List ℕ) : Type 0 where
  pub count_is : r.count ≡ item_count x A a.count b.count c.count
  pub large_is : is_large r ≡ (is_large a || is_large b || is_large c)
  pub hull_is : hull_of r ≡ item_hull x A (hull_of a) (hull_of b) (hull_of c)
  pub buffer_is : v' ≡ item_buffer x A a.count b.count c.count v

-- three fields, one behind another, of an item that is to go behind a line
pub record FinishGiven (l : lines.Line) (a b c : fields.FieldBox) : Type 0 where
  pub line : LineWithin formula_limit l
  pub short : c.end ≤ formula_limit
  pub from : ℕ
  pub first : FieldBoxWithin from a
  pub second : FieldBoxWithin a.end b
  pub third : FieldBoxWithin b.end c

pub record Finished (P : Parameters) (s : Style) (kind : Kind) (signs : Signs) (right : Neighbour) (l : lines.Line) (a b c : fields.FieldBox) (r : lines.Line) (v v' : List ℕ) : Type 0 where
  pub class : Class
  pub arranged : Arranged
  pub x : ℤ
  pub class_is : class ≡ changed_class (neighbour_as l.left) (class_of kind) right
  pub arranged_is : arranged ≡ arrange P s kind signs (shape_as a.shape) (shape_as b.shape) (shape_as c.shape)
  pub x_is : x ≡ l.size.width.0 +ℤ space_before P s (neighbour_as l.left) class
  pub left_is : r.left ≡ Some class
  pub style_is : r.style ≡ l.style
  pub size_is : size_as r.size ≡ beside_size x (size_as l.size) arranged.size
  pub count_is : r.run.count ≡ l.run.count + item_count x arranged a.run.count b.run.count c.run.count
  pub large_is : is_large r.run ≡ (is_large l.run || (is_large a.run || is_large b.run || is_large c.run))
  pub hull_is : hull_of r.run ≡ joined (hull_of l.run) (item_hull x arranged (hull_of a.run) (hull_of b.run) (hull_of c.run))
  pub buffer_is : v' ≡ item_buffer x arranged a.run.count b.run.count c.run.count v
  pub grows : (k n : ℕ) → LineWithin k l → 5 ≤ n → item_count x arranged a.run.count b.run.count c.run.count ≤ n → LineWithin (k + n) r
