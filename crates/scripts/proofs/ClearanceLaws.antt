-- What scripts keep clear (request 12).
--     pair_gap         of a pair set by 18a to 18f: from the subscript's top up to the superscript's bottom four rules are free
-- Assumes nothing.
use Rattle.std.specs.Prelude.{◌≡◌, Bool, ℕ, ℤ, pos, ◌+ℤ◌, ◌-ℤ◌, ◌*ℤ◌, ◌≤ℤ◌}
use Rattle.std.proofs.Math.Path.{refl}
use Rattle.std.proofs.Math.Bool.{true, false}
use native.Mathlib.Omega.{arith}
use Rattle.std.specs.Int.Signed.{lt_z}
use Rattle.scaled.specs.Linear.{Exp, #, ◌⊕◌, ◌⊖◌}
use Rattle.scaled.proofs.Linear.{le_by}
use Rattle.scaled.specs.Made.{Less, less}
use Rattle.boxes.specs.declared.styles.Style.{Style}
use Rattle.boxes.specs.Styles.{font_size}
use Rattle.boxes.specs.Parameters.{Parameters, rule_thickness}
use Rattle.boxes.specs.Boxes.{Size, Shifts}
use Rattle.nucleus.specs.Nucleus.{Nucleus}
use Rattle.scripts.specs.Scripts.{gap, four_rules, gap_down, ψ_of, lifted, spread, pair_shifts}

-- ---- 18e: with the v of the gap four rules are free, and ψ moves both scripts alike

module _ (p : Parameters) (size : ℕ) (x y : Size) where
  abbrev Clear : Shifts → Type 0
  Clear t = four_rules p size ≤ℤ gap x y t.up t.down

  abbrev gap_of : Exp → Exp → Exp
  gap_of u v = (u ⊖ # x.depth) ⊖ (# y.height ⊖ v)

  gap_clear : (u ψ : ℤ) → Clear (lifted ψ (record { up = u; down = gap_down p size x y u }))
  unfolding lifted gap_down
  gap_clear u ψ = go (lt_z (pos 0) ψ)
    where
      v : Exp
      v = # (four_rules p size) ⊖ (# u ⊖ # x.depth) ⊕ # y.height

      t : Shifts
      t = record { up = u; down = gap_down p size x y u }

      go : (up : Bool) → Clear (elim up [ true ↦ record { up = t.up +ℤ ψ; down = t.down -ℤ ψ } | false ↦ t ])
      go true = le_by (# (four_rules p size)) (gap_of (# u ⊕ # ψ) (v ⊖ # ψ)) (omega arith)
      go false = le_by (# (four_rules p size)) (gap_of (# u) v) (omega arith)

  spread_clear : (t : Shifts) → Clear (spread p size x y t)
  unfolding spread
  spread_clear t = go (lt_z (gap x y t.up t.down) (four_rules p size)) refl
    where
      go : (close : Bool) → lt_z (gap x y t.up t.down) (four_rules p size) ≡ close →
          Clear (elim close [
            | true ↦ lifted (ψ_of p size x t.up) (record { up = t.up; down = gap_down p size x y t.up })
            | false ↦ t
          ])
      go true e = gap_clear t.up (ψ_of p size x t.up)
      go false e =
          let free = gap x y t.up t.down in
          let l : Less free (four_rules p size) (lt_z free (four_rules p size)) = less refl in
          le_by (# (four_rules p size)) (# free) (omega (arith, l.no e))

pub pair_gap : (p : Parameters) (s : Style) (n : Nucleus) (x y : Size) →
    let t = pair_shifts p s n x y in
    (rule_thickness p (font_size s) *ℤ pos 4) ≤ℤ gap x y t.up t.down
unfolding pair_shifts
pair_gap p s n x y = spread_clear p (font_size s) x y _
