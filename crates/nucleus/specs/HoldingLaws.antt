-- What a nucleus holds (request 12): its field, where it stands, and its own nodes.
--     NucleusHolds F x n     the nucleus n of a field of size x does
--     box_holds, atom_holds, overline_holds, underline_holds
--     ScriptsHeld n y z a    an item a holds its nucleus n as it stands, and its two scripts: what limits and scripts have to show
-- Assumes nothing.
use Rattle.std.specs.Prelude.{◌≡◌, Bool, true, false, ◌&&◌, not, ℤ, pos}
use Rattle.std.proofs.Math.Option.{Option}
use Rattle.std.proofs.Common.{arith}
use Rattle.scaled.specs.Signed.{NotNegative}
use Rattle.scaled.specs.Linear.{#, ◌⊕◌, ◌⊖◌, neg, times, greatest}
use Rattle.scaled.proofs.Linear.{sound}
use Rattle.font.specs.Font.{Metrics, Font}
use Rattle.boxes.specs.Boxes.{Size, Shape, nothing, char, box, char_size, zero_size, size_of, Arranged}
use Rattle.boxes.specs.Holding.{Upright, Holds, HoldsIf, holds_itself, OwnHeld, none_held, rule_held}
use Rattle.nucleus.specs.Nucleus.{Nucleus, box_nucleus, symbol_nucleus, operator_shift, operator_nucleus, atom_nucleus, overline, underline}

pub record ScriptsHeld (n : Nucleus) (y z : Option Size) (a : Arranged) : Type 0 where
  pub nucleus : Holds a.size n.size (pos 0)
  pub first_is : a.first.up ≡ n.first.up
  pub own_is : a.own ≡ n.own
  pub second : HoldsIf a.size y a.second.up
  pub third : HoldsIf a.size z a.third.up

module _ (F : Font) where
  pub record NucleusHolds (x : Size) (n : Nucleus) : Type 0 where
    pub upright : Upright n.size
    pub first : Holds n.size x n.first.up
    pub own : OwnHeld F n.size n.own

  pub box_holds : (z : Size) → Upright z → NucleusHolds z (box_nucleus z)
  box_holds z u = record { upright = u; first = holds_itself z; own = none_held F z }

  symbol_holds : (m : Metrics) (subscript : Bool) → NucleusHolds (char_size m) (symbol_nucleus m subscript)
  symbol_holds m true = record { upright = omega arith; first = omega arith; own = none_held F _ }
  symbol_holds m false = record { upright = omega arith; first = omega arith; own = none_held F _ }

  -- wherever the symbol is shifted
  operator_holds : (axis : ℤ) (m : Metrics) (beside : Bool) → NucleusHolds (char_size m) (operator_nucleus axis m beside)
  operator_holds axis m beside =
      let down = operator_shift axis m in
      let high = sound (greatest (# (pos 0)) (# (pos m.height) ⊖ # down)) (tt, (tt, tt)) in
      let deep = sound (greatest (# (pos 0)) (# (pos m.depth) ⊕ # down)) (tt, (tt, tt)) in
      let up = sound (neg (# down)) tt in
      record { upright = omega arith; first = omega arith; own = none_held F _ }

  pub atom_holds : (axis : ℤ) (operator limits subscript : Bool) (x : Shape) → Upright (size_of x) →
      NucleusHolds (size_of x) (atom_nucleus axis operator limits subscript x)
  atom_holds axis operator limits subscript nothing u = box_holds zero_size u
  atom_holds axis true limits subscript (char m) u = operator_holds axis m (subscript && not limits)
  atom_holds axis false limits subscript (char m) u = symbol_holds m subscript
  atom_holds axis operator limits subscript (box z) u = box_holds z u

  -- ---- a line over or under, with what stands between and beyond

  module _ (θ : ℤ) (thick : NotNegative θ) (x : Size) (u : Upright x) where
    pub overline_holds : NucleusHolds x (overline θ x)
    overline_holds =
        let high = sound (# x.height ⊕ times (# θ) 5) (tt, tt) in
        let line = sound (# x.height ⊕ times (# θ) 3) (tt, tt) in
        record { upright = omega arith; first = omega arith; own = rule_held F _ (omega arith) }

    pub underline_holds : NucleusHolds x (underline θ x)
    underline_holds =
        let deep = sound (# x.depth ⊕ times (# θ) 5) (tt, tt) in
        let line = sound (neg (# x.depth ⊕ times (# θ) 3) ⊖ # θ) ((tt, tt), tt) in
        record { upright = omega arith; first = omega arith; own = rule_held F _ (omega arith) }
