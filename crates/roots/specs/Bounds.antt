-- How far from zero the numbers of a root lie, in words of the font table.
-- Assumes nothing.
use Rattle.boxes.specs.Bounds.{SizeWithin, OffsetWithin, RuleWithin}
use Rattle.roots.specs.declared.Radical.{Radical}

-- the sign and the nucleus stand side by side
pub record ModerateRadical (r : Radical) : Type 0 where
  pub size : SizeWithin 4 7 r.size
  pub sign : OffsetWithin 7 r.sign
  pub rule : RuleWithin 7 r.rule
  pub nucleus : OffsetWithin 2 r.nucleus
