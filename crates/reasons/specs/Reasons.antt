-- What decided a shift (change request 7).
--     ShiftReason       a shift with its reason, the quantity that gave it
--     corrected     a stage of a shift that may change it
--     Reasons       of an item's shift up and its shift down
-- Assumes nothing.
use Rattle.std.specs.Prelude.{Bool, true, false, ◌||◌, ℤ, pos}
use Rattle.std.specs.Int.Signed.{lt_z}
use Rattle.reasons.specs.declared.Reason.{Reason}
use Rattle.reasons.specs.declared.Reason.TheVariants.{None}

pub record ShiftReason : Type 0 where
  pub by : Reason
  pub shift : ℤ

pub record Reasons : Type 0 where
  pub up : ShiftReason
  pub down : ShiftReason

abbrev pub shift_by : Reason → ℤ → ShiftReason
shift_by by shift = record { by = by; shift = shift }

-- a shift that is not there
abbrev pub unshifted : ShiftReason
unshifted = shift_by None (pos 0)

abbrev pub differs : ℤ → ℤ → Bool
differs a b = lt_z a b || lt_z b a

-- a correction that comes to a shift is named exactly if it changed the one before it
unfoldable pub corrected : Reason → ℤ → ShiftReason → ShiftReason
corrected name shift before = elim (differs shift before.shift) [ true ↦ shift_by name shift | false ↦ before ]
