-- What a root holds (request 12): its nucleus, its sign and its rule.
--     RadicalHolds x y r     the root r of a nucleus x and a sign y does; proofs/HoldingLaws.antt shows that every root does
-- Assumes nothing.
use Rattle.boxes.specs.Boxes.{Size}
use Rattle.boxes.specs.Holding.{Upright, Holds, rule_size}
use Rattle.roots.specs.Roots.{Radical}

pub record RadicalHolds (x y : Size) (r : Radical) : Type 0 where
  pub upright : Upright r.size
  pub nucleus : Holds r.size x r.nucleus.up
  pub sign : Holds r.size y r.sign.up
  pub rule : Holds r.size (rule_size r.rule) r.rule.corner.up
