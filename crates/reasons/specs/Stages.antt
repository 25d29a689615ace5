-- What makes the reason of a shift true (change request 7). A shift goes through three stages: candidates, of which the greatest is taken;
-- the gap, or a fraction's clearance; ψ.
--     ShiftStages       of one shift of an item, what each name stands for there, and the shift that the setter has after each stage
--     True         the reason of a shift is true of its stages
--     BothStages, AllTrue     the same of an item's shift up and its shift down
-- Assumes nothing.
use Rattle.std.specs.Prelude.{◌≡◌, ◌↔◌, ℕ, ◌<◌, ℤ, ◌≤ℤ◌, ◌<ℤ◌}
use Rattle.std.proofs.Math.Option.{Option, none, some}
use Rattle.reasons.specs.declared.Reason.{Reason}
use Rattle.reasons.specs.declared.Reason.TheVariants.{None, Drop, Sigma, XHeight, Gap, Psi, Clearance}
use Rattle.reasons.specs.Reasons.{ShiftReason, Reasons, unshifted}

pub record ShiftStages : Type 0 where
  pub quantity : Reason → Option ℤ  -- none, where it is no quantity of this shift
  pub chosen : ℤ  -- after the candidates
  pub parted : ℤ  -- after the gap or the clearance
  pub final : ℤ  -- after ψ

-- the stage of a quantity
abbrev pub stage : Reason → ℕ
stage None = 0
stage Drop = 0
stage Sigma = 0
stage XHeight = 0
stage Gap = 1
stage Clearance = 1
stage Psi = 2

-- its place among the candidates, as the rules list them
abbrev pub order : Reason → ℕ
order None = 0
order Drop = 1
order Sigma = 2
order XHeight = 3
order Gap = 0
order Clearance = 0
order Psi = 0

abbrev pub Changed : ℤ → ℤ → Type 0
Changed before after = after ≡ before → ⊥

pub record True (c : ShiftStages) (d : ShiftReason) : Type 0 where
  -- the quantity that is named is the shift, and this the setter's
  pub is : c.quantity d.by ≡ some d.shift
  pub is_final : d.shift ≡ c.final
  -- of its stage none is larger, and those listed before it are less
  pub none_larger : (r : Reason) (z : ℤ) → stage r ≡ stage d.by → c.quantity r ≡ some z → z ≤ℤ d.shift
  pub first_of_equals : (r : Reason) (z : ℤ) → stage r ≡ stage d.by → order r < order d.by → c.quantity r ≡ some z → z <ℤ d.shift
  -- a correction is named exactly if it changed the shift, of two the last
  pub second_named : (stage d.by ≡ 1) ↔ (Changed c.chosen c.parted × (c.final ≡ c.parted))
  pub third_named : (stage d.by ≡ 2) ↔ Changed c.parted c.final

-- those of an item; none of a shift that is not there
pub record BothStages : Type 0 where
  pub up : Option ShiftStages
  pub down : Option ShiftStages

abbrev pub TrueIn : Option ShiftStages → ShiftReason → Type 0
TrueIn none d = d ≡ unshifted
TrueIn (some c) d = True c d

pub record AllTrue (c : BothStages) (r : Reasons) : Type 0 where
  pub up : TrueIn c.up r.up
  pub down : TrueIn c.down r.down
