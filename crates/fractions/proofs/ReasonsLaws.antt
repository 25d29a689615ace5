-- The reasons of a fraction are true.
--     cleared_is, parted_is     where the clearance changed a shift it made it what its name stands for
--     fraction_true     the reasons that are given are true of the shifts that its parts go through
--     fraction_used     the shifts that are given with the reasons are those at which its parts stand
-- Assumes nothing.
use Rattle.std.specs.Prelude.{◌≡◌, refl, Bool, ℕ, ℤ, neg_ℤ, ◌+ℤ◌, ◌-ℤ◌}
use Rattle.std.proofs.Common.{sym, ap, subst, ◌∙◌, arith}
use Rattle.std.proofs.Math.Bool.{true, false}
use Rattle.std.proofs.Math.Option.{some}
use Rattle.std.specs.Int.Signed.{lt_z, ≤ℤ_refl}
use Rattle.scaled.specs.Length.{pick, half}
use Rattle.scaled.specs.Linear.{#, ◌⊕◌, ◌⊖◌}
use Rattle.scaled.proofs.Linear.{eq_by}
use Rattle.formula.specs.declared.Bar.{Bar}
use Rattle.boxes.specs.declared.styles.Style.{Style}
use Rattle.boxes.specs.Styles.{font_size}
use Rattle.boxes.specs.Parameters.{Parameters, axis_height}
use Rattle.boxes.specs.Boxes.{Size, Shifts}
use Rattle.reasons.specs.declared.Reason.{Reason}
use Rattle.reasons.specs.declared.Reason.TheVariants.{None, Drop, Sigma, XHeight, Gap, Psi, Clearance}
use Rattle.reasons.specs.Reasons.{shift_by, corrected}
use Rattle.reasons.specs.Stages.{stage, order, Changed, True, AllTrue}
use Rattle.reasons.proofs.ReasonsLaws.{corrected_shift, corrected_kept, true_by_stages}
use Rattle.reasons.specs.ReasonsLaws.{by_its_test}
use Rattle.fractions.specs.Fractions.{bar_thickness, has_bar, fraction_shifts, least_clearance, clearance, parted, shifts_without_bar, least_from_bar, cleared, shifts_with_bar, final_shifts, fraction}
use Rattle.fractions.specs.Reasons.{fraction_reasons}
use Rattle.fractions.specs.Stages.{quantities, part_stages, half_lack, up_cleared, down_cleared, fraction_stages}

-- ---- what the clearance comes to

picked_is : (a b : ℤ) (t : Bool) → Changed b (pick t a b) → a ≡ pick t a b
unfolding pick
picked_is a b true h = refl
picked_is a b false h = absurd (h refl)

cleared_is : (φ upper lower shift : ℤ) → Changed shift (cleared φ upper lower shift) →
    shift +ℤ (φ -ℤ (upper -ℤ lower)) ≡ cleared φ upper lower shift
unfolding cleared
cleared_is φ upper lower shift = picked_is (shift +ℤ (φ -ℤ (upper -ℤ lower))) shift (lt_z (upper -ℤ lower) φ)

-- either shift
module _ (f : Shifts → ℤ) (φ ψ : ℤ) (t : Shifts) where
  abbrev grown : Shifts
  grown = record { up = t.up +ℤ half (φ -ℤ ψ); down = t.down +ℤ half (φ -ℤ ψ) }

  parted_is : Changed (f t) (f (parted φ ψ t)) → f grown ≡ f (parted φ ψ t)
  unfolding parted
  parted_is = by_its_test f grown t (lt_z ψ φ)

module _ (p : Parameters) (s : Style) (θ : ℤ) (x z : Size) where
  abbrev first : Shifts
  first = fraction_shifts p s θ

  final_by : Bool → Shifts
  final_by bar =
      elim bar [
        | true ↦ shifts_with_bar (axis_height p (font_size s)) θ (least_from_bar s θ) x z first
        | false ↦ shifts_without_bar p s x z first
      ]

  up_is : Changed first.up (final_shifts p s θ x z).up → up_cleared p s θ x z ≡ (final_shifts p s θ x z).up
  unfolding pick final_by shifts_with_bar shifts_without_bar
  up_is = go (has_bar θ)
    where
      go : (bar : Bool) → Changed first.up (final_by bar).up →
          pick bar (((axis_height p (font_size s) +ℤ half θ) +ℤ least_from_bar s θ) +ℤ x.depth) (first.up +ℤ half_lack p s θ x z) ≡ (final_by bar).up
      go true h =
          let a = axis_height p (font_size s) +ℤ half θ in
          let φ = least_from_bar s θ in
          eq_by ((# a ⊕ # φ) ⊕ # x.depth) (# first.up ⊕ (# φ ⊖ ((# first.up ⊖ # x.depth) ⊖ # a))) (omega arith)
          ∙ cleared_is φ (first.up -ℤ x.depth) a first.up h
      go false h = parted_is (λ (t : Shifts). t.up) (least_clearance p s) (clearance x z first) first h

  down_is : Changed first.down (final_shifts p s θ x z).down → down_cleared p s θ x z ≡ (final_shifts p s θ x z).down
  unfolding pick final_by shifts_with_bar shifts_without_bar
  down_is = go (has_bar θ)
    where
      go : (bar : Bool) → Changed first.down (final_by bar).down →
          pick bar ((least_from_bar s θ -ℤ (axis_height p (font_size s) -ℤ half θ)) +ℤ z.height) (first.down +ℤ half_lack p s θ x z) ≡ (final_by bar).down
      go true h =
          let a = axis_height p (font_size s) -ℤ half θ in
          let φ = least_from_bar s θ in
          eq_by ((# φ ⊖ # a) ⊕ # z.height) (# first.down ⊕ (# φ ⊖ (# a ⊖ (# z.height ⊖ # first.down)))) (omega arith)
          ∙ cleared_is φ a (z.height -ℤ first.down) first.down h
      go false h = parted_is (λ (t : Shifts). t.down) (least_clearance p s) (clearance x z first) first h

-- ---- the reasons are true

-- σ is the one candidate, and the clearance the one correction
module _ (σ clear final : ℤ) where
  σ_alone : (r : Reason) (z : ℤ) → stage r ≡ 0 → quantities σ clear r ≡ some z → (r ≡ Sigma) × (z ≡ σ)
  σ_alone None z s e = let x : ◌≡◌ {A = ℕ} 0 1 = cc in absurd (omega arith)
  σ_alone Drop z s e = let x : ◌≡◌ {A = ℕ} 0 1 = cc in absurd (omega arith)
  σ_alone Sigma z s e = (refl, cc)
  σ_alone XHeight z s e = let x : ◌≡◌ {A = ℕ} 0 1 = cc in absurd (omega arith)
  σ_alone Gap z s e = absurd (omega arith)
  σ_alone Psi z s e = absurd (omega arith)
  σ_alone Clearance z s e = absurd (omega arith)

  clearance_alone : (r : Reason) (z : ℤ) → stage r ≡ 1 → quantities σ clear r ≡ some z → r ≡ Clearance
  clearance_alone None z s e = absurd (omega arith)
  clearance_alone Drop z s e = absurd (omega arith)
  clearance_alone Sigma z s e = absurd (omega arith)
  clearance_alone XHeight z s e = absurd (omega arith)
  clearance_alone Gap z s e = let x : ◌≡◌ {A = ℕ} 0 1 = cc in absurd (omega arith)
  clearance_alone Psi z s e = absurd (omega arith)
  clearance_alone Clearance z s e = refl

  part_true : (Changed σ final → clear ≡ final) → True (part_stages σ clear final) (corrected Clearance final (shift_by Sigma σ))
  part_true clear-is =
      let cleared = corrected Clearance final (shift_by Sigma σ) in
      subst (True (part_stages σ clear final)) (corrected_kept Psi final cleared (sym (corrected_shift Clearance final (shift_by Sigma σ))))
      (true_by_stages (part_stages σ clear final) Sigma Clearance record {
        candidate = refl;
        chosen_is = refl;
        none_larger = λ r z e h. rw (σ_alone r z e h).1 (≤ℤ_refl σ);
        first_of_equals = λ r z e l h. absurd (omega (arith, ap order (σ_alone r z e h).0));
        correction = refl;
        sole = clearance_alone;
        parted_is = λ h. ap some (clear-is h);
        final_is = λ h. absurd (h refl);
      })

pub fraction_true : (p : Parameters) (s : Style) (bar : Bar) (x z : Size) → AllTrue (fraction_stages p s bar x z) (fraction_reasons p s bar x z)
unfolding fraction_stages fraction_reasons
fraction_true p s bar x z =
    let θ = bar_thickness p (font_size s) bar in
    record { up = part_true _ _ _ (up_is p s θ x z); down = part_true _ _ _ (down_is p s θ x z) }

-- ---- the shifts are those at which the parts stand

pub fraction_used : (p : Parameters) (s : Style) (bar : Bar) (x z : Size) →
    ((fraction p s bar x z).first.up ≡ (fraction_reasons p s bar x z).up.shift)
    × ((fraction p s bar x z).second.up ≡ neg_ℤ (fraction_reasons p s bar x z).down.shift)
unfolding fraction fraction_reasons
fraction_used p s bar x z = (sym (corrected_shift Clearance _ _), ap neg_ℤ (sym (corrected_shift Clearance _ _)))
