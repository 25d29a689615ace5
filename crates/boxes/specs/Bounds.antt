-- How far from zero the numbers of the code lie, in words of the font table, each below 2 ^ 32. What goes in is moderate: a
-- symbol always is, and a list if its size is. What comes out is bounded, so that 131,072 of them can be added up.
--     SizeWithin w k     a size of at most w words in width, and k in height and depth; the size of a field is `Moderate`
--     ModerateShape, ModerateScript     a field, a script: what is asked of a list alone
--     OffsetWithin, ShiftsWithin, OwnWithin     places, shifts and own nodes within so many words
--     Bounded            an item
-- Assumes nothing.
use Rattle.std.specs.Prelude.{ℕ, ◌*◌, ◌^◌, Option, Some, None}
use Rattle.scaled.specs.Signed.{Within}
use Rattle.boxes.specs.declared.Size.{Size}
use Rattle.boxes.specs.declared.Shape.{Shape}
use Rattle.boxes.specs.declared.Shape.TheVariants.{Nothing, Char, Box}
use Rattle.boxes.specs.declared.Offset.{Offset}
use Rattle.boxes.specs.declared.Shifts.{Shifts}
use Rattle.boxes.specs.declared.Rule.{Rule}
use Rattle.boxes.specs.declared.Glyph.{Glyph}
use Rattle.boxes.specs.declared.Owned.{Owned}
use Rattle.boxes.specs.declared.Own.{Own}
use Rattle.boxes.specs.declared.Arranged.{Arranged}

abbrev pub words : ℕ → ℕ
words k = k * 2 ^ 32

pub record SizeWithin (w k : ℕ) (z : Size) : Type 0 where
  pub width : Within (words w) z.width.0
  pub height : Within (words k) z.height.0
  pub depth : Within (words k) z.depth.0

-- a symbol's width has its italic correction
abbrev pub Moderate : Size → Type 0
Moderate z = SizeWithin 2 1 z

abbrev pub ModerateShape : Shape → Type 0
ModerateShape Nothing = Unit {0}
ModerateShape (Char m) = Unit {0}
ModerateShape (Box z) = Moderate z

abbrev pub ModerateScript : Option Size → Type 0
ModerateScript None = Unit {0}
ModerateScript (Some z) = Moderate z

pub record OffsetWithin (k : ℕ) (p : Offset) : Type 0 where
  pub across : Within (words k) p.across.0
  pub up : Within (words k) p.up.0

pub record ShiftsWithin (k : ℕ) (t : Shifts) : Type 0 where
  pub up : Within (words k) t.up.0
  pub down : Within (words k) t.down.0

pub record RuleWithin (k : ℕ) (r : Rule) : Type 0 where
  pub corner : OffsetWithin k r.corner
  pub width : Within (words k) r.width.0
  pub thickness : Within (words k) r.thickness.0

abbrev pub RulingWithin : ℕ → Option Rule → Type 0
RulingWithin k None = Unit {0}
RulingWithin k (Some r) = RuleWithin k r

abbrev pub SigningWithin : ℕ → Option Glyph → Type 0
SigningWithin k None = Unit {0}
SigningWithin k (Some g) = OffsetWithin k g.place

pub record OwnedWithin (k : ℕ) (o : Owned) : Type 0 where
  pub sign : SigningWithin k o.sign
  pub ruling : RulingWithin k o.ruling

pub record OwnWithin (k : ℕ) (o : Own) : Type 0 where
  pub before : OwnedWithin k o.before
  pub behind : OwnedWithin k o.behind

-- how many words an item's size, places and own nodes lie within
abbrev pub item_words : ℕ
item_words = 32

pub record Bounded (a : Arranged) : Type 0 where
  pub width : Within (words item_words) a.size.width.0
  pub height : Within (words item_words) a.size.height.0
  pub depth : Within (words item_words) a.size.depth.0
  pub first : OffsetWithin item_words a.first
  pub second : OffsetWithin item_words a.second
  pub third : OffsetWithin item_words a.third
  pub own : OwnWithin item_words a.own
