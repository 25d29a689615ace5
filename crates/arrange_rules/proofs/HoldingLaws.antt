-- What an item holds (request 12): its fields, where they stand, and its own nodes, of whatever kind it is.
--     arranged_holds            every item does, whose fields are upright, as all are that are set
-- Assumes nothing.
use Rattle.std.specs.Prelude.{◌≡◌, Bool, true, false, ℤ}
use Rattle.std.proofs.Common.{sym, arith}
use Rattle.std.proofs.Math.Path.{subst}
use Rattle.std.proofs.Math.Option.{Option, none, some}
use Rattle.font.specs.Font.{Font}
use Rattle.formula.specs.declared.Base.{Base}
use Rattle.formula.specs.declared.Base.TheVariants.{Atom, Over, Under, Root, Fence}
use Rattle.formula.specs.declared.Kind.{Kind}
use Rattle.formula.specs.declared.Kind.TheVariants.{Scripted, Fraction}
use Rattle.formula.specs.Heads.{is_op}
use Rattle.boxes.specs.declared.styles.Style.{Style}
use Rattle.boxes.specs.Styles.{font_size}
use Rattle.boxes.specs.Parameters.{Parameters, axis_height, rule_thickness}
use Rattle.boxes.specs.Boxes.{Size, Shape, nothing, char, box, size_of, given, Offset, Rule, no_own, ruled_behind, Arranged}
use Rattle.boxes.specs.Holding.{Upright, UprightIf, upright_within, Holds, HoldsIf, holds_within, AllHeld, OwnHeld, none_held, rule_held, own_within, rule_size}
use Rattle.delimiters.specs.Delimiters.{Sign, sign_size, sign_nodes, Signs}
use Rattle.delimiters.specs.FoundSigns.{IfThere}
use Rattle.roots.specs.Roots.{Radical, root}
use Rattle.roots.proofs.HoldingLaws.{root_holds}
use Rattle.fences.specs.Fences.{fence_of}
use Rattle.fences.specs.HoldingLaws.{fence_holds}
use Rattle.nucleus.specs.Nucleus.{Nucleus}
use Rattle.nucleus.specs.HoldingLaws.{NucleusHolds, ScriptsHeld, atom_holds, overline_holds, underline_holds}
use Rattle.limits.specs.Limits.{has_limits}
use Rattle.limits.specs.HoldingLaws.{limits_hold}
use Rattle.scripts.specs.ClearanceLaws.{scripts_hold}
use Rattle.fractions.specs.Fractions.{bar_thickness, has_bar}
use Rattle.fractions.specs.ClearanceLaws.{BarHeld}
use Rattle.fractions.proofs.ClearanceLaws.{fraction_holds}
use Rattle.arrange_rules.specs.Arrange.{is_given, sets_limits, root_nucleus, fence_nucleus, nucleus_of, set_scripts, arrange}
use Rattle.arrange_rules.specs.HoldingLaws.{ShapeHeld, NoThird, SignsThere, ArrangedHolds}

shape_held : {w : Size} {up : ℤ} (x : Shape) → Holds w (size_of x) up → ShapeHeld w x up
shape_held nothing h = tt
shape_held (char m) h = h
shape_held (box z) h = h

script_held : (w : Size) (up : ℤ) (y : Shape) → HoldsIf w (given y) up → ShapeHeld w y up
script_held w up nothing h = tt
script_held w up (char m) h = h
script_held w up (box z) h = h

given_upright : (y : Shape) → Upright (size_of y) → UprightIf (given y)
given_upright nothing u = tt
given_upright (char m) u = u
given_upright (box z) u = u

-- ---- signs

sign_upright : (sign : Option Sign) → Upright (sign_size sign)
sign_upright none = omega arith
sign_upright (some g) = omega arith

module _ (F : Font) where
  sign_held : (w : Size) (place : Offset) (sign : Option Sign) → IfThere F sign → Holds w (sign_size sign) place.up → AllHeld F w (sign_nodes place sign)
  sign_held w place none there h = tt
  sign_held w place (some g) there h = (record { metrics = g.metrics; there = there; held = h }, tt)

  -- ---- a root and a fence as a nucleus

  root_own : (r : Radical) (sign behind : Option Sign) → IfThere F sign → Holds r.size (sign_size sign) r.sign.up →
      Holds r.size (rule_size r.rule) r.rule.corner.up →
      OwnHeld F r.size (root_nucleus r record { before = sign; behind = behind }).own
  root_own r none behind there h k = record { before = (k, tt); behind = tt }
  root_own r (some g) behind there h k =
      record { before = (record { metrics = g.metrics; there = there; held = h }, (k, tt)); behind = tt }

  root_nucleus_lem : (p : Parameters) (s : Style) (x : Size) (signs : Signs) → IfThere F signs.before → Upright x →
      NucleusHolds F x (root_nucleus (root p s x (sign_size signs.before)) signs)
  root_nucleus_lem p s x signs there u =
      let r = root p s x (sign_size signs.before) in
      let h = root_holds p s x (sign_size signs.before) u (sign_upright signs.before) in
      record {
        upright = h.upright;
        first = h.nucleus;
        own = root_own r signs.before signs.behind there h.sign h.rule;
      }

  fence_nucleus_lem : (p : Parameters) (s : Style) (x : Size) (signs : Signs) → SignsThere F signs → Upright x →
      NucleusHolds F x (fence_nucleus (fence_of p s (sign_size signs.before) x (sign_size signs.behind)) signs)
  fence_nucleus_lem p s x signs there u =
      let f = fence_of p s (sign_size signs.before) x (sign_size signs.behind) in
      let h = fence_holds p s (sign_size signs.before) x (sign_size signs.behind) u in
      record {
        upright = h.upright;
        first = h.inside;
        own = record {
          before = sign_held f.size f.left signs.before there.before h.left;
          behind = sign_held f.size f.right signs.behind there.behind h.right;
        };
      }

  module _ (p : Parameters) (s : Style) where
    nucleus_holds : (base : Base) (signs : Signs) (subscript : Bool) (x : Shape) → SignsThere F signs → Upright (size_of x) →
        NucleusHolds F (size_of x) (nucleus_of p s base signs subscript x)
    unfolding nucleus_of
    nucleus_holds (Atom class limits) signs subscript x there u =
        atom_holds F (axis_height p (font_size s)) (is_op class) (has_limits s.level class limits) subscript x u
    nucleus_holds Over signs subscript x there u = overline_holds F (rule_thickness p (font_size s)) (omega arith) (size_of x) u
    nucleus_holds Under signs subscript x there u = underline_holds F (rule_thickness p (font_size s)) (omega arith) (size_of x) u
    nucleus_holds (Root d) signs subscript x there u = root_nucleus_lem p s (size_of x) signs there.before u
    nucleus_holds (Fence left right) signs subscript x there u = fence_nucleus_lem p s (size_of x) signs there u

    -- ---- scripts

    set_holds : (limits : Bool) (n : Nucleus) (y z : Option Size) → Upright n.size → UprightIf y → UprightIf z →
        ScriptsHeld n y z (set_scripts p s limits n y z)
    set_holds true n y z u uy uz = limits_hold p (font_size s) n y z u uy uz
    set_holds false n y z u uy uz = scripts_hold p s n y z

    scripted_holds : (n : Nucleus) (x y z : Shape) (a : Arranged) → NucleusHolds F (size_of x) n → ScriptsHeld n (given y) (given z) a → ArrangedHolds F x y z a
    scripted_holds n x y z a h k =
        record {
          upright = upright_within k.nucleus h.upright;
          first = shape_held x (subst (Holds a.size (size_of x)) (sym k.first_is) (holds_within k.nucleus h.first));
          second = script_held a.size a.second.up y k.second;
          third = script_held a.size a.third.up z k.third;
          own = subst (OwnHeld F a.size) (sym k.own_is) (own_within F k.nucleus h.own);
        }

    -- ---- a fraction

    bar_own : (bar : Bool) (w : Size) (r : Rule) → BarHeld w r bar → OwnHeld F w (elim bar [ true ↦ ruled_behind r | false ↦ no_own ])
    bar_own true w r h = rule_held F r h
    bar_own false w r h = none_held F w

    -- ---- any item

    pub arranged_holds : (kind : Kind) (signs : Signs) (x y z : Shape) → NoThird kind z → SignsThere F signs →
        Upright (size_of x) → Upright (size_of y) → Upright (size_of z) → ArrangedHolds F x y z (arrange p s kind signs x y z)
    unfolding arrange
    arranged_holds (Scripted base) signs x y z only there ux uy uz =
        let n = nucleus_of p s base signs (is_given (given z)) x in
        let h = nucleus_holds base signs (is_given (given z)) x there ux in
        scripted_holds n x y z _ h (set_holds (sets_limits s base) n (given y) (given z) h.upright (given_upright y uy) (given_upright z uz))
    arranged_holds (Fraction bar) signs x y z only there ux uy uz =
        let h = fraction_holds p s bar (size_of x) (size_of y) ux uy in
        record {
          upright = h.upright;
          first = shape_held x h.numerator;
          second = shape_held y h.denominator;
          third = rw only tt;
          own = subst (OwnHeld F _) (sym h.own_is) (bar_own (has_bar (bar_thickness p (font_size s) bar)) _ _ h.held);
        }
