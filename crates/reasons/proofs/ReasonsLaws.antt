-- A correction: the shift is the one that it came to, and it is named exactly if it changed the shift. So the reason of a shift that goes
-- through its stages one behind the other is true.
--     corrected_shift       the shift, whatever is named
--     corrected_kept        where it changed nothing all stays, the reason too
--     true_by_stages        the reason that the stages give is true
-- Assumes nothing.
use Rattle.std.specs.Prelude.{◌≡◌, Bool, ◌||◌, ℕ, ◌<◌, ℤ, ◌≤ℤ◌}
use Rattle.std.proofs.Math.Path.{refl}
use Rattle.std.proofs.Common.{sym, ap, ◌∙◌, arith}
use Rattle.std.proofs.Math.Bool.{true, false}
use Rattle.std.proofs.Math.Option.{Option, some}
use Rattle.std.specs.Int.Signed.{lt_z, ≤ℤ_refl}
use Rattle.scaled.specs.Signed.{above, below}
use Rattle.scaled.specs.Made.{Less, less}
use Rattle.reasons.specs.declared.Reason.{Reason}
use Rattle.reasons.specs.declared.Reason.TheVariants.{None, Drop, Sigma, XHeight, Gap, Psi, Clearance}
use Rattle.reasons.specs.Reasons.{ShiftReason, shift_by, differs, corrected}
use Rattle.reasons.specs.Stages.{ShiftStages, stage, order, Changed, True}
use Rattle.reasons.specs.ReasonsLaws.{same, Staged}

module _ {a b : ℤ} where
  equal : differs a b ≡ false → a ≡ b
  equal e = go (lt_z a b) (lt_z b a) refl refl e
    where
      go : (l g : Bool) → lt_z a b ≡ l → lt_z b a ≡ g → (l || g) ≡ false → a ≡ b
      go false false p q e = same p q
      go false true p q e = cc
      go true g p q e = cc

  not_equal : differs a b ≡ true → a ≡ b → ⊥
  not_equal e is = go (lt_z a b) (lt_z b a) refl refl e
    where
      go : (l g : Bool) → lt_z a b ≡ l → lt_z b a ≡ g → (l || g) ≡ true → ⊥
      go false false p q e = let z : ◌≡◌ {A = ℕ} 0 1 = cc in omega arith
      go false true p q e = let h : Less b a true = less (sym q) in absurd (omega (arith, h.yes refl, ap above is, ap below is))
      go true g p q e = let h : Less a b true = less (sym p) in absurd (omega (arith, h.yes refl, ap above is, ap below is))

module _ (name : Reason) (shift : ℤ) (before : ShiftReason) where
  by_change : (P : ShiftReason → Type 0) → (((shift ≡ before.shift) → ⊥) → P (shift_by name shift)) → (shift ≡ before.shift → P before) →
      P (corrected name shift before)
  unfolding corrected
  by_change P f g = go (differs shift before.shift) refl
    where
      go : (t : Bool) → differs shift before.shift ≡ t → P (elim t [ true ↦ shift_by name shift | false ↦ before ])
      go true e = f (not_equal e)
      go false e = g (equal e)

  pub corrected_shift : (corrected name shift before).shift ≡ shift
  corrected_shift = by_change (λ (d : ShiftReason). d.shift ≡ shift) (λ e. refl) (λ e. sym e)

  pub corrected_kept : shift ≡ before.shift → corrected name shift before ≡ before
  corrected_kept is = by_change (λ (d : ShiftReason). d ≡ before) (λ e. absurd (e is)) (λ e. refl)

-- ---- the stages of a shift

sole_third : (r : Reason) → stage r ≡ 2 → r ≡ Psi
sole_third None e = absurd (omega arith)
sole_third Drop e = absurd (omega arith)
sole_third Sigma e = absurd (omega arith)
sole_third XHeight e = absurd (omega arith)
sole_third Gap e = absurd (omega arith)
sole_third Clearance e = absurd (omega arith)
sole_third Psi e = refl

-- what a name stands for is one number
same_quantity : (q : Reason → Option ℤ) {r by : Reason} {z shift : ℤ} → r ≡ by → q by ≡ some shift → q r ≡ some z → z ≤ℤ shift
same_quantity q {z} {shift} is e h = let same : shift ≡ z = cc in rw same (≤ℤ_refl z)

not_before : {r by : Reason} → r ≡ by → order r < order by → ⊥
not_before is h = omega (arith, ap order is)

module _ (c : ShiftStages) (by name : Reason) (s : Staged c by name) where
  by_ψ : Changed c.parted c.final → True c (shift_by Psi c.final)
  by_ψ changed =
      record {
        is = s.final_is changed;
        is_final = refl;
        none_larger = λ r z e h. same_quantity c.quantity (sole_third r e) (s.final_is changed) h;
        first_of_equals = λ r z e l h. absurd (not_before (sole_third r e) l);
        second_named = (λ e. absurd (omega arith), λ h. absurd (changed h.1));
        third_named = (λ e. changed, λ h. refl);
      }

  by_correction : Changed c.chosen c.parted → c.final ≡ c.parted → True c (shift_by name c.parted)
  by_correction changed kept =
      let same : (r : Reason) (z : ℤ) → stage r ≡ stage name → c.quantity r ≡ some z → r ≡ name = λ r z e h. s.sole r z (e ∙ s.correction) h in
      record {
        is = s.parted_is changed;
        is_final = sym kept;
        none_larger = λ r z e h. same_quantity c.quantity (same r z e h) (s.parted_is changed) h;
        first_of_equals = λ r z e l h. absurd (not_before (same r z e h) l);
        second_named = (λ e. (changed, kept), λ h. s.correction);
        third_named = (λ e. absurd (omega (arith, s.correction)), λ h. absurd (h kept));
      }

  by_candidate : c.parted ≡ c.chosen → c.final ≡ c.parted → True c (shift_by by c.chosen)
  by_candidate kept last =
      record {
        is = s.chosen_is;
        is_final = sym (last ∙ kept);
        none_larger = λ r z e h. s.none_larger r z (e ∙ s.candidate) h;
        first_of_equals = λ r z e l h. s.first_of_equals r z (e ∙ s.candidate) l h;
        second_named = (λ e. absurd (omega (arith, s.candidate)), λ h. absurd (h.0 kept));
        third_named = (λ e. absurd (omega (arith, s.candidate)), λ h. absurd (h last));
      }

  pub true_by_stages : True c (corrected Psi c.final (corrected name c.parted (shift_by by c.chosen)))
  true_by_stages =
      let first = shift_by by c.chosen in
      let second = corrected name c.parted first in
      let is = corrected_shift name c.parted first in
      by_change Psi c.final second (True c)
      (λ changed. by_ψ (λ e. changed (e ∙ sym is)))
      (λ kept.
      by_change name c.parted first (True c)
      (λ changed. by_correction changed (kept ∙ is))
      (λ same. by_candidate same (kept ∙ is)))
