-- The reasons of scripts are true.
--     none_larger, chosen_is, first_of_equals     of the candidates none is larger than the shift, the one that is named is it, and those
--                         listed before it are less
--     spread_widened      the gap's stage, and then ψ's, are the rule 18e
--     gap_is, ψ_up_is, ψ_down_is     a correction that changed a shift made it what its name stands for
--     scripts_true        the reasons that are given are true of the shifts that the scripts go through
--     pair_used, scripts_used     the shifts that are given with the reasons are those at which the scripts stand
-- Assumes nothing.
use Rattle.std.proofs.Math.Path.{◌≡◌, refl, sym, ap, subst}
use Rattle.std.proofs.Common.{◌∙◌, arith}
use Rattle.std.specs.Prelude.{Bool, ℕ, ◌<◌, ℤ, pos, ◌+ℤ◌, ◌-ℤ◌, ◌≤ℤ◌, ◌<ℤ◌}
use Rattle.std.proofs.Math.Bool.{true, false}
use Rattle.std.proofs.Math.Option.{Option, none, some}
use Rattle.std.proofs.Math.IntN.{neg_ℤ}
use Rattle.std.specs.Int.Signed.{lt_z, ≤ℤ_refl}
use Rattle.scaled.specs.Length.{max_ℤ}
use Rattle.scaled.specs.Signed.{own, parts_max, parts_same, parts_le, parts_lt, le_parts}
use Rattle.scaled.specs.Made.{Less, less}
use Rattle.boxes.specs.declared.styles.Style.{Style}
use Rattle.boxes.specs.Styles.{font_size}
use Rattle.boxes.specs.Parameters.{Parameters}
use Rattle.boxes.specs.Boxes.{Size, Shifts}
use Rattle.nucleus.specs.Nucleus.{Nucleus}
use Rattle.reasons.specs.declared.Reason.{Reason}
use Rattle.reasons.specs.declared.Reason.TheVariants.{None, Drop, Sigma, XHeight, Gap, Psi, Clearance}
use Rattle.reasons.specs.Reasons.{Reasons, corrected}
use Rattle.reasons.specs.Stages.{ShiftStages, stage, order, Changed, True, AllTrue}
use Rattle.reasons.specs.ReasonsLaws.{by_its_test}
use Rattle.reasons.proofs.ReasonsLaws.{corrected_shift, corrected_kept, true_by_stages}
use Rattle.scripts.specs.Scripts.{Candidates, greatest, kept_free, subscript_candidates, superscript_candidates, pair_candidates, gap, four_rules, gap_down, ψ_of, lifted, spread, pair_shifts, scripted}
use Rattle.script_reasons.specs.Reasons.{first_greatest, chosen, widened, first_shifts, pair_reasons, script_reasons}
use Rattle.script_reasons.specs.Stages.{quantities, alone_stages, up_after_ψ, down_at_gap, down_after_ψ, pair_up_stages, pair_down_stages, script_stages}

-- ---- of numbers

-- the greater of two is at least both, and more than both it is not
module _ (a b : ℤ) where
  first_in : a ≤ℤ max_ℤ a b
  first_in = parts_le (omega (arith, parts_max (own a) (own b)))

  second_in : b ≤ℤ max_ℤ a b
  second_in = parts_le (omega (arith, parts_max (own a) (own b)))

  not_above_both : lt_z a (max_ℤ a b) ≡ true → lt_z b (max_ℤ a b) ≡ true → ⊥
  not_above_both p q =
      let f : Less a (max_ℤ a b) true = less (sym p) in
      let g : Less b (max_ℤ a b) true = less (sym q) in
      omega (arith, parts_max (own a) (own b), f.yes refl, g.yes refl)

  -- where the greatest of three is more than two it is the third
  above_both : (z : ℤ) → let m = max_ℤ (max_ℤ a b) z in lt_z a m ≡ true → lt_z b m ≡ true → z ≡ m
  above_both z p q =
      let m = max_ℤ (max_ℤ a b) z in
      let f : Less a m true = less (sym p) in
      let g : Less b m true = less (sym q) in
      let is = parts_max (parts_max (own a) (own b)) (own z) in
      parts_same (own z) is (omega (arith, is, f.yes refl, g.yes refl))

≤ℤ_trans : {a b c : ℤ} → a ≤ℤ b → b ≤ℤ c → a ≤ℤ c
≤ℤ_trans h k = parts_le (omega (arith, le_parts h, le_parts k))

same_≤ℤ : {a b z : ℤ} → a ≡ z → a ≤ℤ b → z ≤ℤ b
same_≤ℤ e h = rw e at h

not_less : {a b : ℤ} → lt_z a b ≡ false → a ≤ℤ b → a ≡ b
not_less {a} {b} e h =
    let l : Less a b (lt_z a b) = less refl in
    parts_same (own a) (own b) (omega (arith, l.no e, le_parts h))

kept_free_lem : (shift : ℤ) (free : Option ℤ) → shift ≤ℤ kept_free shift free
kept_free_lem shift none = ≤ℤ_refl shift
kept_free_lem shift (some z) = first_in shift z

free_kept : (shift : ℤ) (free : Option ℤ) (z : ℤ) → free ≡ some z → z ≤ℤ kept_free shift free
free_kept shift none z e = let x : ◌≡◌ {A = ℕ} 0 1 = cc in absurd (omega arith)
free_kept shift (some y) z e = let h : y ≡ z = cc in same_≤ℤ h (second_in shift y)

-- ---- the greatest of the candidates

-- whatever the gap and ψ come to
module _ (c : Candidates) (gap ψ : Option ℤ) where
  none_larger : (r : Reason) (z : ℤ) → stage r ≡ 0 → quantities c gap ψ r ≡ some z → z ≤ℤ greatest c
  unfolding greatest
  none_larger None z s e = let x : ◌≡◌ {A = ℕ} 0 1 = cc in absurd (omega arith)
  none_larger Drop z s e =
      let h : c.dropped ≡ z = cc in
      same_≤ℤ h (≤ℤ_trans (first_in c.dropped c.least) (kept_free_lem (max_ℤ c.dropped c.least) c.free))
  none_larger Sigma z s e =
      let h : c.least ≡ z = cc in
      same_≤ℤ h (≤ℤ_trans (second_in c.dropped c.least) (kept_free_lem (max_ℤ c.dropped c.least) c.free))
  none_larger XHeight z s e = free_kept _ c.free z e
  none_larger Gap z s e = absurd (omega arith)
  none_larger Psi z s e = absurd (omega arith)
  none_larger Clearance z s e = absurd (omega arith)

  -- where two are less than the greatest it is the third
  third_is : lt_z c.dropped (greatest c) ≡ true → lt_z c.least (greatest c) ≡ true → c.free ≡ some (greatest c)
  unfolding greatest
  third_is p q = go c.free p q
    where
      go : (free : Option ℤ) →
          let z = kept_free (max_ℤ c.dropped c.least) free in
          lt_z c.dropped z ≡ true → lt_z c.least z ≡ true → free ≡ some z
      go none p q = absurd (not_above_both c.dropped c.least p q)
      go (some y) p q = ap some (above_both c.dropped c.least y p q)

  -- by which of the first two are less than the greatest
  abbrev first_of : Bool → Bool → Reason
  first_of l g = elim l [ true ↦ elim g [ true ↦ XHeight | false ↦ Sigma ] | false ↦ Drop ]

  chosen_is : quantities c gap ψ (first_greatest c) ≡ some (greatest c)
  unfolding first_greatest
  chosen_is = go (lt_z c.dropped (greatest c)) (lt_z c.least (greatest c)) refl refl
    where
      go : (l g : Bool) → lt_z c.dropped (greatest c) ≡ l → lt_z c.least (greatest c) ≡ g →
          quantities c gap ψ (first_of l g) ≡ some (greatest c)
      go true true p q = third_is p q
      go true false p q = ap some (not_less q (none_larger Sigma c.least refl refl))
      go false g p q = ap some (not_less p (none_larger Drop c.dropped refl refl))

  candidate_is : stage (first_greatest c) ≡ 0
  unfolding first_greatest
  candidate_is = go (lt_z c.dropped (greatest c)) (lt_z c.least (greatest c))
    where
      go : (l g : Bool) → stage (first_of l g) ≡ 0
      go true true = refl
      go true false = refl
      go false g = refl

  first_of_equals : (r : Reason) (z : ℤ) → stage r ≡ 0 → order r < order (first_greatest c) → quantities c gap ψ r ≡ some z → z <ℤ greatest c
  unfolding first_greatest
  first_of_equals r z = go (lt_z c.dropped (greatest c)) (lt_z c.least (greatest c)) refl refl r
    where
      less_than : (a : ℤ) → lt_z a (greatest c) ≡ true → a ≡ z → z <ℤ greatest c
      less_than a e is =
          let l : Less a (greatest c) true = less (sym e) in
          let lower : a <ℤ greatest c = parts_lt (l.yes refl) in
          subst (λ (x : ℤ). x <ℤ greatest c) is lower

      go : (l g : Bool) → lt_z c.dropped (greatest c) ≡ l → lt_z c.least (greatest c) ≡ g → (r : Reason) → stage r ≡ 0 →
          order r < order (first_of l g) → quantities c gap ψ r ≡ some z → z <ℤ greatest c
      go l g p q None s h e = let x : ◌≡◌ {A = ℕ} 0 1 = cc in absurd (omega arith)
      go true g p q Drop s h e = less_than c.dropped p (cc)
      go false g p q Drop s h e = absurd (omega arith)
      go true true p q Sigma s h e = less_than c.least q (cc)
      go true false p q Sigma s h e = absurd (omega arith)
      go false g p q Sigma s h e = absurd (omega arith)
      go true true p q XHeight s h e = absurd (omega arith)
      go true false p q XHeight s h e = absurd (omega arith)
      go false g p q XHeight s h e = absurd (omega arith)
      go l g p q Gap s h e = absurd (omega arith)
      go l g p q Psi s h e = absurd (omega arith)
      go l g p q Clearance s h e = absurd (omega arith)

  -- of a script the gap alone is looked at before ψ
  sole_second : (r : Reason) (z : ℤ) → stage r ≡ 1 → quantities c gap ψ r ≡ some z → r ≡ Gap
  sole_second None z s e = absurd (omega arith)
  sole_second Drop z s e = absurd (omega arith)
  sole_second Sigma z s e = absurd (omega arith)
  sole_second XHeight z s e = absurd (omega arith)
  sole_second Gap z s e = refl
  sole_second Psi z s e = absurd (omega arith)
  sole_second Clearance z s e = let x : ◌≡◌ {A = ℕ} 0 1 = cc in absurd (omega arith)

  -- a shift of these candidates, by what a correction makes of it that changes it
  module _ (parted final : ℤ) where
    abbrev stages_of : ShiftStages
    stages_of = record { quantity = quantities c gap ψ; chosen = greatest c; parted = parted; final = final }

    true_of : (Changed (greatest c) parted → gap ≡ some parted) → (Changed parted final → ψ ≡ some final) →
        True stages_of (corrected Psi final (corrected Gap parted (chosen c)))
    true_of gap_is ψ-is =
        true_by_stages stages_of (first_greatest c) Gap record {
          candidate = candidate_is;
          chosen_is = chosen_is;
          none_larger = none_larger;
          first_of_equals = first_of_equals;
          correction = refl;
          sole = sole_second;
          parted_is = gap_is;
          final_is = ψ-is;
        }

-- ---- the stages of 18e

module _ (p : Parameters) (size : ℕ) (x y : Size) (t : Shifts) where
  down_by : Bool → ℤ
  down_by close = elim close [ true ↦ gap_down p size x y t.up | false ↦ t.down ]

  abbrev moved : ℤ → Shifts
  moved v = record { up = t.up; down = v }

  apart : Bool → Shifts
  apart close = elim close [ true ↦ lifted (ψ_of p size x t.up) (moved (gap_down p size x y t.up)) | false ↦ t ]

  -- where the gap is too small ψ is looked at behind it, and elsewhere neither stage changes anything
  pub spread_widened : (close : Bool) → lt_z (gap x y t.up t.down) (four_rules p size) ≡ close →
      spread p size x y t
      ≡ elim close [ true ↦ lifted (ψ_of p size x t.up) (moved (widened p size x y t)) | false ↦ moved (widened p size x y t) ]
  unfolding spread widened apart down_by
  spread_widened true e = ap apart e ∙ sym (ap (λ (close : Bool). lifted (ψ_of p size x t.up) (moved (down_by close))) e)
  spread_widened false e = ap apart e ∙ sym (ap (λ (close : Bool). moved (down_by close)) e)

  -- by whether the gap is too small and ψ positive
  spread_by : Bool → Bool → Shifts
  spread_by close up =
      let v = gap_down p size x y t.up in
      let ψ = ψ_of p size x t.up in
      elim close [
        | true ↦ elim up [ true ↦ record { up = t.up +ℤ ψ; down = v -ℤ ψ } | false ↦ moved v ]
        | false ↦ t
      ]

  -- a correction that changed a shift made it what its name stands for
  gap_is : Changed t.down (widened p size x y t) → gap_down p size x y t.up ≡ widened p size x y t
  unfolding widened
  gap_is = by_its_test (λ (z : ℤ). z) (gap_down p size x y t.up) t.down (lt_z (gap x y t.up t.down) (four_rules p size))

  ψ_up_is : Changed t.up (spread p size x y t).up → t.up +ℤ ψ_of p size x t.up ≡ (spread p size x y t).up
  unfolding spread lifted spread_by
  ψ_up_is = go (lt_z (gap x y t.up t.down) (four_rules p size)) (lt_z (pos 0) (ψ_of p size x t.up))
    where
      go : (close up : Bool) → Changed t.up (spread_by close up).up → t.up +ℤ ψ_of p size x t.up ≡ (spread_by close up).up
      go true true h = refl
      go true false h = absurd (h refl)
      go false up h = absurd (h refl)

  ψ_down_is : Changed (widened p size x y t) (spread p size x y t).down →
      gap_down p size x y t.up -ℤ ψ_of p size x t.up ≡ (spread p size x y t).down
  unfolding widened spread lifted down_by spread_by
  ψ_down_is = go (lt_z (gap x y t.up t.down) (four_rules p size)) (lt_z (pos 0) (ψ_of p size x t.up))
    where
      go : (close up : Bool) → Changed (down_by close) (spread_by close up).down →
          gap_down p size x y t.up -ℤ ψ_of p size x t.up ≡ (spread_by close up).down
      go true true h = refl
      go true false h = absurd (h refl)
      go false up h = absurd (h refl)

-- ---- the reasons are true

unchanged : {z : ℤ} {P : Type 0} → Changed z z → P
unchanged h = absurd (h refl)

-- a stage that changes nothing gives no other reason
alone_true : (c : Candidates) → True (alone_stages c) (chosen c)
alone_true c =
    let z = greatest c in
    let second = corrected Gap z (chosen c) in
    subst (True (alone_stages c))
    (corrected_kept Psi z second (sym (corrected_shift Gap z (chosen c))) ∙ corrected_kept Gap z (chosen c) refl)
    (true_of c none none z z unchanged unchanged)

some_is : {A : Type 0} {x y : A} → some x ≡ some y → x ≡ y
some_is e = cc

module _ (p : Parameters) (s : Style) (n : Nucleus) where
  -- the shift up of a pair, and its shift down
  pair_up_true : (x y : Size) → True (pair_up_stages p s n x y) (corrected Psi (pair_shifts p s n x y).up (chosen (superscript_candidates p s n x)))
  unfolding pair_shifts
  pair_up_true x y =
      let u = superscript_candidates p s n x in
      subst (True (pair_up_stages p s n x y))
      (ap (corrected Psi (pair_shifts p s n x y).up) (corrected_kept Gap (greatest u) (chosen u) refl))
      (true_of u none (some (up_after_ψ p s n x y)) (greatest u) _ unchanged
      (λ h. ap some (ψ_up_is p (font_size s) x y (first_shifts p s n x) h)))

  pair_down_true : (x y : Size) →
      True (pair_down_stages p s n x y)
      (corrected Psi (pair_shifts p s n x y).down
      (corrected Gap (widened p (font_size s) x y (first_shifts p s n x)) (chosen (pair_candidates p s n))))
  unfolding pair_shifts
  pair_down_true x y =
      let size = font_size s in
      let t = first_shifts p s n x in
      true_of (pair_candidates p s n) (some (down_at_gap p s n x y)) (some (down_after_ψ p s n x y)) _ _
      (λ h. ap some (gap_is p size x y t h)) (λ h. ap some (ψ_down_is p size x y t h))

  -- the reasons of a pair by their stages: another candidate or another order of the stages is refused here
  up_is : (x y : Size) → (pair_reasons p s n x y).up ≡ corrected Psi (pair_shifts p s n x y).up (chosen (superscript_candidates p s n x))
  unfolding pair_reasons
  up_is x y = cc

  down_is : (x y : Size) →
      (pair_reasons p s n x y).down
      ≡ corrected Psi (pair_shifts p s n x y).down
      (corrected Gap (widened p (font_size s) x y (first_shifts p s n x)) (chosen (pair_candidates p s n)))
  unfolding pair_reasons
  down_is x y = cc

  pub pair_true : (x y : Size) → AllTrue (script_stages p s n (some x) (some y)) (pair_reasons p s n x y)
  unfolding script_stages
  pair_true x y = record { up = rw (up_is x y) (pair_up_true x y); down = rw (down_is x y) (pair_down_true x y) }

  pub scripts_true : (x y : Option Size) (r : Reasons) → script_reasons p s n x y ≡ some r → AllTrue (script_stages p s n x y) r
  unfolding script_reasons script_stages
  scripts_true none none r e = let x : ◌≡◌ {A = ℕ} 0 1 = cc in absurd (omega arith)
  scripts_true (some x) none r e =
      subst (AllTrue (script_stages p s n (some x) none)) (some_is e) record { up = alone_true (superscript_candidates p s n x); down = refl }
  scripts_true none (some y) r e =
      subst (AllTrue (script_stages p s n none (some y))) (some_is e) record { up = refl; down = alone_true (subscript_candidates p s n y) }
  scripts_true (some x) (some y) r e = subst (AllTrue (script_stages p s n (some x) (some y))) (some_is e) (pair_true x y)

-- ---- the shifts are those at which the scripts stand

module _ (p : Parameters) (s : Style) (n : Nucleus) where
  pub pair_used : (x y : Size) →
      ((pair_reasons p s n x y).up.shift ≡ (pair_shifts p s n x y).up) × ((pair_reasons p s n x y).down.shift ≡ (pair_shifts p s n x y).down)
  unfolding pair_reasons
  pair_used x y = (corrected_shift Psi _ _, corrected_shift Psi _ _)

  pub scripts_used : (x y : Option Size) (r : Reasons) → script_reasons p s n x y ≡ some r →
      ((scripted p s n x y).second.up ≡ r.up.shift) × ((scripted p s n x y).third.up ≡ neg_ℤ r.down.shift)
  unfolding script_reasons scripted
  scripts_used none none r e = let x : ◌≡◌ {A = ℕ} 0 1 = cc in absurd (omega arith)
  scripts_used (some x) none r e = (ap (λ (t : Reasons). t.up.shift) (some_is e), ap (λ (t : Reasons). neg_ℤ t.down.shift) (some_is e))
  scripts_used none (some y) r e = (ap (λ (t : Reasons). t.up.shift) (some_is e), ap (λ (t : Reasons). neg_ℤ t.down.shift) (some_is e))
  scripts_used (some x) (some y) r e =
      let used = pair_used x y in (
        sym used.0 ∙ ap (λ (t : Reasons). t.up.shift) (some_is e),
        ap neg_ℤ (sym used.1) ∙ ap (λ (t : Reasons). neg_ℤ t.down.shift) (some_is e),
      )
