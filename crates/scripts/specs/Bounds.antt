-- How far from zero candidates for a shift lie, in words of the font table.
-- Assumes nothing.
use Rattle.std.specs.Prelude.{ℕ, Option, Some, None}
use Rattle.scaled.specs.declared.Sp.{Sp}
use Rattle.scaled.specs.Signed.{Within}
use Rattle.boxes.specs.Bounds.{words}
use Rattle.scripts.specs.declared.Candidates.{Candidates}

abbrev pub FreeWithin : ℕ → Option Sp → Type 0
FreeWithin k None = Unit {0}
FreeWithin k (Some z) = Within (words k) z.0

pub record CandidatesWithin (k : ℕ) (c : Candidates) : Type 0 where
  pub dropped : Within (words k) c.dropped.0
  pub least : Within (words k) c.least.0
  pub free : FreeWithin k c.free
