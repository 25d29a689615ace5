-- Shifts that are equal, values by a test, and what is asked of the stages of a shift. That a reason is true is shown in
-- proofs/ReasonsLaws.antt.
--     same                  what is less neither way is equal
--     by_its_test           what a test changes is what it gives where it holds
--     Staged                what is asked of the stages of a shift
-- Assumes nothing.
use Rattle.std.specs.Prelude.{◌≡◌, Bool, ◌<◌, ℤ, ◌≤ℤ◌, ◌<ℤ◌}
use Rattle.std.proofs.Math.Path.{refl}
use Rattle.std.proofs.Common.{arith}
use Rattle.std.proofs.Math.Bool.{true, false}
use Rattle.std.proofs.Math.Option.{some}
use Rattle.std.specs.Int.Signed.{lt_z}
use Rattle.scaled.specs.Signed.{own, parts_same}
use Rattle.scaled.specs.Made.{Less, less}
use Rattle.reasons.specs.declared.Reason.{Reason}
use Rattle.reasons.specs.declared.Reason.TheVariants.{Psi}
use Rattle.reasons.specs.Stages.{ShiftStages, stage, order, Changed}

module _ {a b : ℤ} where
  pub same : lt_z a b ≡ false → lt_z b a ≡ false → a ≡ b
  same p q =
      let l : Less a b (lt_z a b) = less refl in
      let g : Less b a (lt_z b a) = less refl in
      parts_same (own a) (own b) (omega (arith, l.no p, g.no q))

-- ---- the stages of a shift

-- of two values by a test, the first where the second is changed
pub by_its_test : {A : Type 0} (f : A → ℤ) (a b : A) (t : Bool) → Changed (f b) (f (elim t [ true ↦ a | false ↦ b ])) →
    f a ≡ f (elim t [ true ↦ a | false ↦ b ])
by_its_test f a b true h = refl
by_its_test f a b false h = absurd (h refl)

-- by is the candidate that is chosen, and name the correction before ψ
pub record Staged (c : ShiftStages) (by name : Reason) : Type 0 where
  pub candidate : stage by ≡ 0
  pub chosen_is : c.quantity by ≡ some c.chosen
  pub none_larger : (r : Reason) (z : ℤ) → stage r ≡ 0 → c.quantity r ≡ some z → z ≤ℤ c.chosen
  pub first_of_equals : (r : Reason) (z : ℤ) → stage r ≡ 0 → order r < order by → c.quantity r ≡ some z → z <ℤ c.chosen
  pub correction : stage name ≡ 1
  pub sole : (r : Reason) (z : ℤ) → stage r ≡ 1 → c.quantity r ≡ some z → r ≡ name
  pub parted_is : Changed c.chosen c.parted → c.quantity name ≡ some c.parted
  pub final_is : Changed c.parted c.final → c.quantity Psi ≡ some c.final
