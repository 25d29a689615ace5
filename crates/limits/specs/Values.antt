-- What the values of the code stand for in the definitions: the distances of a limit, and a side of an operator.
-- Assumes nothing.
use Rattle.limits.specs.declared.Distances.{Distances}
use Rattle.limits.specs.declared.Side.{Side}
use Rattle.limits.specs.Limits.{Limit, Side as SideOf}

abbrev pub distances_as : Distances → Limit
distances_as d = record { shift = d.shift.0; reach = d.reach.0 }

abbrev pub side_as : Side → SideOf
side_as s = record { reach = s.reach.0; across = s.across.0; shift = s.shift.0 }
