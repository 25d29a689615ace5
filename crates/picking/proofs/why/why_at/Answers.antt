-- `why_at` meets its contract, by whether an item is picked.
-- Assumes nothing.
use Prim.Native.Nat.{◌-◌}
use native.Mathlib.Omega.{arith}
use lib.ListN.{drop, length-take}
use Rattle.picking.proofs.WhyLaws.{place_without_reasons, place_reasons}
use Rattle.picking.proofs.why.why_at.Goals as goal

pub returns-in_err-spot : goal.returns-in_err-spot
returns-in_err-spot c = rw c.from_residual.ensures (place_without_reasons _ _ _ _ c.in_err-spot.ensures)

pub why_head-requires : goal.why_head-requires
why_head-requires c =
    let a = c.args in
    let spot = c.in_ok-spot.ensures in
    record {
      readable = spot.head.readable;
      short = omega (arith, c.requires.short, spot.inside, length-take (c.in_ok-spot.spot.end - a.place) (drop a.place a.s.now));
    }

pub returns : goal.returns
returns c = place_reasons _ _ _ _ c.why_head.result c.in_ok-spot.ensures c.why_head.ensures
