-- How far from zero the numbers of a nucleus lie, in words of the font table.
-- Assumes nothing.
use Rattle.scaled.specs.Signed.{Within}
use Rattle.boxes.specs.Bounds.{words, item_words, SizeWithin, OffsetWithin, OwnWithin}
use Rattle.nucleus.specs.declared.Nucleus.{Nucleus}

-- a fence is as wide as its list and two delimiters; a line adds five times its thickness
pub record ModerateNucleus (n : Nucleus) : Type 0 where
  pub size : SizeWithin 6 7 n.size
  pub first : OffsetWithin 2 n.first
  pub delta : Within (words 1) n.delta.0
  pub own : OwnWithin item_words n.own
