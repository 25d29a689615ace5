-- What a root holds (request 12): its nucleus, its sign and its rule.
--     root_holds             every root does
-- Assumes nothing.
use Rattle.std.specs.Prelude.{◌≡◌, refl, Bool, true, false, ℤ, pos, ◌+ℤ◌, ◌-ℤ◌}
use Rattle.std.proofs.Common.{arith}
use Rattle.std.specs.Int.Signed.{lt_z, shr_z}
use Rattle.scaled.specs.Length.{pick, half}
use Rattle.scaled.specs.Signed.{NotNegative}
use Rattle.scaled.specs.Linear.{#, ◌⊕◌, ◌⊖◌, greatest, halved, floor}
use Rattle.scaled.proofs.Linear.{sound}
use Rattle.scaled.specs.Made.{Less, less}
use Rattle.boxes.specs.declared.styles.Style.{Style}
use Rattle.boxes.specs.Styles.{is_display, font_size}
use Rattle.boxes.specs.Parameters.{Parameters, x_height, rule_thickness}
use Rattle.boxes.specs.Boxes.{Size}
use Rattle.boxes.specs.Holding.{Upright}
use Rattle.roots.specs.Roots.{least_clearance, clearance, rooted, root}
use Rattle.roots.specs.HoldingLaws.{RadicalHolds}

-- ψ is not negative
least_up_lem : (p : Parameters) (s : Style) → NotNegative (least_clearance p s)
unfolding pick
least_up_lem p s = go (is_display s.level)
  where
    θ : ℤ
    θ = rule_thickness p (font_size s)

    go : (display : Bool) → NotNegative (θ +ℤ shr_z (pick display (x_height p (font_size s)) θ) 4)
    go true = omega (arith, sound (# θ ⊕ floor (# (x_height p (font_size s))) 4) (tt, (tt, omega arith)))
    go false = omega (arith, sound (# θ ⊕ floor (# θ) 4) (tt, (tt, omega arith)))

clearance_up : (ψ : ℤ) (x y : Size) → NotNegative ψ → NotNegative (clearance ψ x y)
unfolding pick
clearance_up ψ x y up = go (lt_z (pos 0) excess) refl
  where
    excess : ℤ
    excess = y.depth -ℤ ((x.height +ℤ x.depth) +ℤ ψ)

    go : (t : Bool) → lt_z (pos 0) excess ≡ t → NotNegative (pick t (ψ +ℤ half excess) ψ)
    go true e =
        let l : Less (pos 0) excess (lt_z (pos 0) excess) = less refl in
        omega (arith, l.yes e, sound (# ψ ⊕ halved (# excess)) (tt, tt))
    go false e = up

rooted_holds : (ψ : ℤ) (x y : Size) → NotNegative ψ → Upright x → Upright y → RadicalHolds x y (rooted ψ x y)
rooted_holds ψ x y free ux uy =
    let up = sound (# x.height ⊕ # ψ) (tt, tt) in
    let high = sound (((# x.height ⊕ # ψ) ⊕ # y.height) ⊕ # y.height) (((tt, tt), tt), tt) in
    let deep = sound (greatest (# x.depth) (# y.depth ⊖ (# x.height ⊕ # ψ))) (tt, (tt, (tt, tt))) in
    omega arith

pub root_holds : (p : Parameters) (s : Style) (x y : Size) → Upright x → Upright y → RadicalHolds x y (root p s x y)
unfolding root
root_holds p s x y ux uy =
    let ψ = least_clearance p s in
    rooted_holds (clearance ψ x y) x y (clearance_up ψ x y (least_up_lem p s)) ux uy
