-- What an item holds (request 12): its fields, where they stand, and its own nodes, of whatever kind it is.
--     SignsThere                what was found for delimiters is in the font
--     ArrangedHolds F x y z a   the item a of three shapes does; of a shape that is nothing no claim is made. proofs/HoldingLaws.antt shows
--                               that every item does
-- Assumes nothing.
use Rattle.std.specs.Prelude.{◌≡◌, Bool, true, false, ℤ}
use Rattle.std.proofs.Common.{sym, arith}
use Rattle.std.proofs.Math.Path.{subst}
use Rattle.std.proofs.Math.Option.{Option, none, some}
use Rattle.font.specs.Font.{Font}
use Rattle.formula.specs.declared.Base.{Base}
use Rattle.formula.specs.declared.Base.TheVariants.{Atom, Over, Under, Root, Fence}
use Rattle.formula.specs.declared.Kind.{Kind}
use Rattle.formula.specs.declared.Kind.TheVariants.{Scripted, Fraction}
use Rattle.formula.specs.Heads.{is_op}
use Rattle.boxes.specs.declared.styles.Style.{Style}
use Rattle.boxes.specs.Styles.{font_size}
use Rattle.boxes.specs.Parameters.{Parameters, axis_height, rule_thickness}
use Rattle.boxes.specs.Boxes.{Size, Shape, nothing, char, box, size_of, given, Offset, Rule, no_own, ruled_behind, Arranged}
use Rattle.boxes.specs.Holding.{Upright, UprightIf, upright_within, Holds, HoldsIf, holds_within, AllHeld, OwnHeld, none_held, rule_held, own_within, rule_size}
use Rattle.delimiters.specs.Delimiters.{Sign, sign_size, sign_nodes, Signs}
use Rattle.delimiters.specs.FoundSigns.{IfThere}
use Rattle.roots.specs.Roots.{Radical, root}
use Rattle.roots.proofs.HoldingLaws.{root_holds}
use Rattle.fences.specs.Fences.{fence_of}
use Rattle.fences.specs.HoldingLaws.{fence_holds}
use Rattle.nucleus.specs.Nucleus.{Nucleus}
use Rattle.nucleus.specs.HoldingLaws.{NucleusHolds, ScriptsHeld, atom_holds, overline_holds, underline_holds}
use Rattle.limits.specs.Limits.{has_limits}
use Rattle.limits.specs.HoldingLaws.{limits_hold}
use Rattle.scripts.specs.ClearanceLaws.{scripts_hold}
use Rattle.fractions.specs.Fractions.{bar_thickness, has_bar}
use Rattle.fractions.specs.ClearanceLaws.{BarHeld}
use Rattle.fractions.proofs.ClearanceLaws.{fraction_holds}
use Rattle.arrange_rules.specs.Arrange.{is_given, sets_limits, root_nucleus, fence_nucleus, nucleus_of, set_scripts, arrange}

-- a part of a fraction stands where it stands though it is nothing: no claim is made of it
abbrev pub ShapeHeld : Size → Shape → ℤ → Type 0
ShapeHeld w nothing up = Unit {0}
ShapeHeld w (char m) up = Holds w (size_of (char m)) up
ShapeHeld w (box z) up = Holds w z up

-- a fraction has no third field
abbrev pub NoThird : Kind → Shape → Type 0
NoThird (Scripted base) z = Unit {0}
NoThird (Fraction bar) z = z ≡ nothing

module _ (F : Font) where
  pub record SignsThere (signs : Signs) : Type 0 where
    pub before : IfThere F signs.before
    pub behind : IfThere F signs.behind

  pub record ArrangedHolds (x y z : Shape) (a : Arranged) : Type 0 where
    pub upright : Upright a.size
    pub first : ShapeHeld a.size x a.first.up
    pub second : ShapeHeld a.size y a.second.up
    pub third : ShapeHeld a.size z a.third.up
    pub own : OwnHeld F a.size a.own
