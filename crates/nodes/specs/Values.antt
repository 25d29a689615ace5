-- What the code's record of a run of nodes, `Run`, says of them.
--     hull_of                           how far the run reaches
--     is_large                          whether it is marked as large
--     RunIs                            the nodes that a run stands for
--     EmptyRun, LargeRun, PointRun     what the runs that are made from nothing are
--     JoinedRun, MovedRun              what becomes of runs
-- Assumes nothing.
use Rattle.std.specs.Prelude.{◌≡◌, Bool, true, false, ◌||◌, List, ℕ, zero, suc, ◌+◌, ℤ, length}
use Rattle.nodes.specs.Nodes.{Node}
use Rattle.nodes.specs.Hull.{Hull, none, around, joined, moved_hull, hull}
use Rattle.nodes.specs.declared.run.Run as code

-- none without a node, else around its four ends
abbrev pub hull_of : code.Run → Hull
hull_of r = elim r.count [ zero ↦ none | suc n ↦ around r.left.0 r.right.0 r.bottom.0 r.top.0 ]

-- whether a list that it was set from passes the greatest length: marked by a number that is not 0
abbrev pub marked : ℕ → Bool
marked zero = false
marked (suc n) = true

abbrev pub is_large : code.Run → Bool
is_large r = marked r.large

-- the run stands for these nodes
pub record RunIs (ns : List Node) (r : code.Run) : Type 0 where
  pub count_is : r.count ≡ length ns
  pub hull_is : hull_of r ≡ hull ns

pub record EmptyRun (r : code.Run) : Type 0 where
  pub count_is : r.count ≡ 0
  pub large_is : is_large r ≡ false
  pub hull_is : hull_of r ≡ none

pub record LargeRun (r : code.Run) : Type 0 where
  pub count_is : r.count ≡ 0
  pub large_is : is_large r ≡ true
  pub hull_is : hull_of r ≡ none

-- one node, at (x, y)
pub record PointRun (x y : ℤ) (r : code.Run) : Type 0 where
  pub count_is : r.count ≡ 1
  pub large_is : is_large r ≡ false
  pub hull_is : hull_of r ≡ around x x y y

-- two runs, one behind the other
pub record JoinedRun (a b r : code.Run) : Type 0 where
  pub count_is : r.count ≡ a.count + b.count
  pub large_is : is_large r ≡ (is_large a || is_large b)
  pub hull_is : hull_of r ≡ joined (hull_of a) (hull_of b)

-- a run moved right by dx and up by dy
pub record MovedRun (dx dy : ℤ) (a r : code.Run) : Type 0 where
  pub count_is : r.count ≡ a.count
  pub large_is : is_large r ≡ is_large a
  pub hull_is : hull_of r ≡ moved_hull dx dy (hull_of a)
