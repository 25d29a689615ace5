-- How far from zero the numbers of the walk's code lie, so that no sum of them overflows.
--     LineWithin     a line behind so many bytes: an item has five bytes or more, and at most a node for each
-- Assumes nothing.
use Rattle.std.specs.Prelude.{ℕ, ◌*◌, ◌^◌, ◌≤◌}
use Rattle.scaled.specs.Signed.{Within}
use Rattle.boxes.specs.Bounds.{words, item_words}
use Rattle.nodes.specs.Hull.{HullWithin}
use Rattle.nodes.specs.Values.{hull_of}
use Rattle.walk_fields.specs.declared.lines.Line as lines

-- how far a length may lie from zero behind so many bytes of a list
abbrev pub stride : ℕ → ℕ
stride bytes = bytes * 2 ^ 36

pub record LineWithin (bytes : ℕ) (c : lines.Line) : Type 0 where
  pub width : Within (stride bytes) c.size.width.0
  pub height : Within (words item_words) c.size.height.0
  pub depth : Within (words item_words) c.size.depth.0
  pub count : c.run.count ≤ bytes
  pub hull : HullWithin (stride bytes) (hull_of c.run)
