-- How far from zero the numbers of a fence lie, in words of the font table.
-- Assumes nothing.
use Rattle.boxes.specs.Bounds.{SizeWithin, OffsetWithin}
use Rattle.fences.specs.declared.Fence.{Fence}

-- the list stands between the two delimiters
pub record ModerateFence (r : Fence) : Type 0 where
  pub size : SizeWithin 6 3 r.size
  pub left : OffsetWithin 2 r.left
  pub inside : OffsetWithin 2 r.inside
  pub right : OffsetWithin 4 r.right
