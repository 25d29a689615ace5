-- How far from zero the numbers of a limit's room, of a limit and of a side lie, in words of the font table.
-- Assumes nothing.
use Rattle.std.specs.Prelude.{ℕ}
use Rattle.scaled.specs.Signed.{Within}
use Rattle.boxes.specs.Bounds.{words}
use Rattle.limits.specs.declared.Room.{Room}
use Rattle.limits.specs.declared.Distances.{Distances}
use Rattle.limits.specs.declared.Side.{Side}

pub record RoomWithin (k : ℕ) (r : Room) : Type 0 where
  pub gap : Within (words k) r.gap.0
  pub distance : Within (words k) r.distance.0
  pub blank : Within (words k) r.blank.0

pub record DistancesWithin (k : ℕ) (d : Distances) : Type 0 where
  pub shift : Within (words k) d.shift.0
  pub reach : Within (words k) d.reach.0

pub record SideWithin (k : ℕ) (s : Side) : Type 0 where
  pub reach : Within (words k) s.reach.0
  pub across : Within (words k) s.across.0
  pub shift : Within (words k) s.shift.0
