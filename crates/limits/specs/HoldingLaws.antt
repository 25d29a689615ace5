-- What an operator with limits holds (request 12): its nucleus, and both limits; each stands beyond the nucleus.
--     limits_hold     whatever is set with limits does
-- Assumes nothing.
use Rattle.std.specs.Prelude.{refl, ℕ, ◌+◌, ◌≤◌, ℤ, pos, neg_ℤ}
use Rattle.std.proofs.Math.Option.{Option, none, some}
use Rattle.std.proofs.Common.{arith}
use Rattle.scaled.specs.Length.{half}
use Rattle.scaled.specs.Signed.{above, below}
use Rattle.scaled.specs.Linear.{#, ◌⊕◌, ◌⊖◌, neg, greatest}
use Rattle.scaled.proofs.Linear.{sound}
use Rattle.boxes.specs.Parameters.{Parameters}
use Rattle.boxes.specs.Boxes.{Size}
use Rattle.boxes.specs.Holding.{Upright, UprightIf, Holds, HoldsIf}
use Rattle.nucleus.specs.Nucleus.{Nucleus}
use Rattle.nucleus.specs.HoldingLaws.{ScriptsHeld}
use Rattle.limits.specs.Limits.{Side, side, turned, limited}
use Rattle.limits.specs.Limits as limits

-- a script beyond an edge of the nucleus: its far side is within the reach, and its near side not short of the edge
record Beyond (edge : ℤ) (z : Size) (l : Side) : Type 0 where
  far : above z.height + above l.shift + below l.reach ≤ above l.reach + below z.height + below l.shift
  near : above edge + above z.depth + below l.shift ≤ above l.shift + below edge + below z.depth

abbrev BeyondIf : ℤ → Option Size → Side → Type 0
BeyondIf edge none l = Unit {0}
BeyondIf edge (some z) l = Beyond edge z l

record SideHolds (edge : ℤ) (o : Option Size) (l : Side) : Type 0 where
  edge_in : above edge + below l.reach ≤ above l.reach + below edge
  script_in : BeyondIf edge o l

-- no parameter is negative
side_holds : (leastGap leastDistance blank : ℕ) (edge w right : ℤ) (o : Option Size) → UprightIf o →
    SideHolds edge o (side (pos leastGap) (pos leastDistance) (pos blank) edge w right o)
side_holds leastGap leastDistance blank edge w right none u = record { edge_in = omega arith; script_in = tt }
side_holds leastGap leastDistance blank edge w right (some z) u =
    let kern = greatest (# (pos leastGap)) (# (pos leastDistance) ⊖ # z.depth) in
    let shift = sound (# edge ⊕ kern ⊕ # z.depth) ((tt, (tt, (tt, tt))), tt) in
    let reach = sound (((# edge ⊕ kern ⊕ # z.depth) ⊕ # z.height) ⊕ # (pos blank)) ((((tt, (tt, (tt, tt))), tt), tt), tt) in
    record { edge_in = omega arith; script_in = omega arith }

turned_up : (o : Option Size) → UprightIf o → UprightIf (turned o)
turned_up none u = tt
turned_up (some z) u = record { high = u.deep; deep = u.high }

module _ (n : Nucleus) (u : Upright n.size) (over under : Side) (w : ℤ) where
  abbrev whole : Size
  whole = record { width = w; height = over.reach; depth = under.reach }

  nucleus_in : {y z : Option Size} → SideHolds n.size.height y over → SideHolds n.size.depth z under → Holds whole n.size (pos 0)
  nucleus_in up down = record { top = omega (arith, up.edge_in); bottom = omega (arith, down.edge_in) }

  superscript_in : (y : Option Size) (down : Holds whole n.size (pos 0)) → BeyondIf n.size.height y over → HoldsIf whole y over.shift
  superscript_in none down h = tt
  superscript_in (some y) down h = omega arith

  subscript_in : (z : Option Size) (down : Holds whole n.size (pos 0)) → BeyondIf n.size.depth (turned z) under → HoldsIf whole z (neg_ℤ under.shift)
  subscript_in none down h = tt
  subscript_in (some z) down h = omega (arith, sound (neg (# under.shift)) tt)

pub limits_hold : (p : Parameters) (size : ℕ) (n : Nucleus) (y z : Option Size) → Upright n.size → UprightIf y → UprightIf z →
    ScriptsHeld n y z (limited p size n y z)
unfolding limited
limits_hold p size n y z u uy uz =
    let w = limits.widest n.size.width y z in
    let over = limits.above p size n w y in
    let under = limits.below p size n w z in
    let up : SideHolds n.size.height y over = side_holds _ _ _ n.size.height w (half n.δ) y uy in
    let down : SideHolds n.size.depth (turned z) under = side_holds _ _ _ n.size.depth w (neg_ℤ (half n.δ)) (turned z) (turned_up z uz) in
    let nucleus = nucleus_in n u over under w up down in
    record {
      nucleus = nucleus;
      first_is = refl;
      own_is = refl;
      second = superscript_in n u over under w y nucleus up.script_in;
      third = subscript_in n u over under w z nucleus down.script_in;
    }
