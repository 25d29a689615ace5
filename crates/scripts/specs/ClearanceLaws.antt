-- What an item with scripts holds (request 12).
--     scripts_hold     the item holds its nucleus and its scripts
-- Assumes nothing.
use Rattle.std.specs.Prelude.{[], ◌∷◌, ℤ, pos, neg_ℤ, ◌+ℤ◌, ◌-ℤ◌}
use Rattle.std.proofs.Math.Path.{refl}
use Rattle.std.proofs.Math.Option.{Option, none, some}
use native.Mathlib.Omega.{arith}
use Rattle.scaled.specs.Linear.{#, ◌⊕◌, ◌⊖◌, neg, greatest}
use Rattle.scaled.proofs.Linear.{sound}
use Rattle.boxes.specs.declared.styles.Style.{Style}
use Rattle.boxes.specs.Parameters.{Parameters}
use Rattle.boxes.specs.Boxes.{Size, Offset, Shifts}
use Rattle.boxes.specs.Holding.{Holds, HoldsIf, holds_if_within}
use Rattle.nucleus.specs.Nucleus.{Nucleus}
use Rattle.nucleus.specs.HoldingLaws.{ScriptsHeld}
use Rattle.scripts.specs.Scripts.{superscript_up, subscript_down, pair_shifts, reach, assembled, pair_top, pair_bottom, scripted}

-- ---- the item

-- as high and as deep as the scripts reach
abbrev reaching : ℤ → ℤ → Size
reaching top bottom = record { width = pos 0; height = top; depth = bottom }

assembled_holds : (n : Nucleus) (second third : Offset) (w top bottom : ℤ) (y z : Option Size) →
    HoldsIf (reaching top bottom) y second.up → HoldsIf (reaching top bottom) z third.up →
    ScriptsHeld n y z (assembled n second third w top bottom)
assembled_holds n second third w top bottom y z h k =
    let high = sound (greatest (# n.size.height) (# top)) (tt, tt) in
    let deep = sound (greatest (# n.size.depth) (# bottom)) (tt, tt) in
    let within : Holds (assembled n second third w top bottom).size (reaching top bottom) (pos 0) = omega arith in
    record {
      nucleus = omega arith;
      first_is = refl;
      own_is = refl;
      second = holds_if_within within y second.up h;
      third = holds_if_within within z third.up k;
    }

alone_in : (z : Size) (up : ℤ) → Holds (reaching (reach ((z.height +ℤ up) ∷ [])) (reach ((z.depth -ℤ up) ∷ []))) z up
unfolding reach
alone_in z up =
    let top = sound (greatest (# z.height ⊕ # up) (# (pos 0))) ((tt, tt), tt) in
    let bottom = sound (greatest (# z.depth ⊖ # up) (# (pos 0))) ((tt, tt), tt) in
    omega arith

module _ (x y : Size) (t : Shifts) where
  abbrev pair_reaching : Size
  pair_reaching = reaching (pair_top x y t) (pair_bottom x y t)

  pair_up : Holds pair_reaching x t.up
  unfolding reach
  pair_up =
      let top = sound (greatest (# x.height ⊕ # t.up) (greatest (# y.height ⊖ # t.down) (# (pos 0)))) ((tt, tt), ((tt, tt), tt)) in
      let bottom = sound (greatest (# y.depth ⊕ # t.down) (greatest (# x.depth ⊖ # t.up) (# (pos 0)))) ((tt, tt), ((tt, tt), tt)) in
      omega arith

  pair_down_lem : Holds pair_reaching y (neg_ℤ t.down)
  unfolding reach
  pair_down_lem =
      let top = sound (greatest (# x.height ⊕ # t.up) (greatest (# y.height ⊖ # t.down) (# (pos 0)))) ((tt, tt), ((tt, tt), tt)) in
      let bottom = sound (greatest (# y.depth ⊕ # t.down) (greatest (# x.depth ⊖ # t.up) (# (pos 0)))) ((tt, tt), ((tt, tt), tt)) in
      omega (arith, sound (neg (# t.down)) tt)

pub scripts_hold : (p : Parameters) (s : Style) (n : Nucleus) (y z : Option Size) → ScriptsHeld n y z (scripted p s n y z)
unfolding scripted reach
scripts_hold p s n none none = assembled_holds n _ _ _ (reach []) (reach []) none none tt tt
scripts_hold p s n (some x) none = assembled_holds n _ _ _ _ _ (some x) none (alone_in x (superscript_up p s n x)) tt
scripts_hold p s n none (some y) = assembled_holds n _ _ _ _ _ none (some y) tt (alone_in y (neg_ℤ (subscript_down p s n y)))
scripts_hold p s n (some x) (some y) =
    let t = pair_shifts p s n x y in
    assembled_holds n _ _ _ (pair_top x y t) (pair_bottom x y t) (some x) (some y) (pair_up x y t) (pair_down_lem x y t)
