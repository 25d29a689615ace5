-- How many own nodes an arrangement has: as many as `own_counts` says, whatever its fields and its signs are.
--     own_before, own_behind     before the first field, and behind it
--     few_own                    two at most
-- Assumes nothing.
use Rattle.std.specs.Prelude.{Bool, ◌≡◌, ◌+◌, ◌≤◌, ℤ, length}
use Rattle.std.proofs.Math.Bool.{true, false}
use Rattle.std.proofs.Math.Option.{Option, none, some}
use Rattle.std.proofs.Math.Path.{refl}
use Rattle.std.proofs.Common.{arith}
use Rattle.formula.specs.declared.Base.{Base}
use Rattle.formula.specs.declared.Base.TheVariants.{Atom, Over, Under, Root, Fence}
use Rattle.formula.specs.declared.Kind.{Kind}
use Rattle.formula.specs.declared.Kind.TheVariants.{Scripted, Fraction}
use Rattle.formula.specs.Heads.{is_op}
use Rattle.boxes.specs.declared.styles.Style.{Style}
use Rattle.boxes.specs.Styles.{font_size}
use Rattle.boxes.specs.Parameters.{Parameters, axis_height}
use Rattle.boxes.specs.Boxes.{Size, Shape, nothing, char, box, size_of, given, Offset, Rule, Own, no_own, ruled_behind}
use Rattle.delimiters.specs.declared.HasSigns.{HasSigns}
use Rattle.delimiters.specs.Delimiters.{Sign, sign_size, sign_nodes, Signs}
use Rattle.delimiters.specs.DelimiterLaws.{is_found, which_found}
use Rattle.nucleus.specs.Nucleus.{Nucleus, atom_nucleus}
use Rattle.limits.specs.Limits.{has_limits, limited}
use Rattle.roots.specs.Roots.{Radical, root}
use Rattle.scripts.specs.Scripts.{scripted}
use Rattle.fractions.specs.Fractions.{bar_thickness, has_bar, fraction}
use Rattle.arrange_rules.specs.Arrange.{is_given, sets_limits, root_nucleus, nucleus_of, set_scripts, arrange, OwnCounts, root_counts, sign_count, base_counts, bar_counts, own_counts}

record Counted (o : Own) (n : OwnCounts) : Type 0 where
  before : length o.before ≡ n.before
  behind : length o.behind ≡ n.behind

-- ---- a base with scripts has the own nodes of its nucleus

pub atom_own : (axis : ℤ) (operator limits subscript : Bool) (x : Shape) → (atom_nucleus axis operator limits subscript x).own ≡ no_own
atom_own axis operator limits subscript nothing = refl
atom_own axis true limits subscript (char m) = refl
atom_own axis false limits true (char m) = refl
atom_own axis false limits false (char m) = refl
atom_own axis operator limits subscript (box z) = refl

root_counted : (r : Radical) (signs : Signs) → Counted (root_nucleus r signs).own (root_counts (is_found signs.before))
root_counted r signs = go signs.before
  where
    go : (sign : Option Sign) → Counted (root_nucleus r record { before = sign; behind = signs.behind }).own (root_counts (is_found sign))
    go none = record { before = refl; behind = refl }
    go (some found) = record { before = refl; behind = refl }

sign_counted : (place : Offset) (sign : Option Sign) → length (sign_nodes place sign) ≡ sign_count (is_found sign)
sign_counted place none = refl
sign_counted place (some found) = refl

module _ (p : Parameters) (s : Style) where
  pub set_own : (limits : Bool) (n : Nucleus) (y z : Option Size) → (set_scripts p s limits n y z).own ≡ n.own
  unfolding limited scripted
  set_own true n y z = refl
  set_own false n none none = refl
  set_own false n (some x) none = refl
  set_own false n none (some y) = refl
  set_own false n (some x) (some y) = refl

  nucleus_counted : (base : Base) (signs : Signs) (subscript : Bool) (x : Shape) →
      Counted (nucleus_of p s base signs subscript x).own (base_counts base (which_found signs))
  unfolding nucleus_of
  nucleus_counted (Atom class limits) signs subscript x =
      rw (atom_own (axis_height p (font_size s)) (is_op class) (has_limits s.level class limits) subscript x) (record { before = refl; behind = refl })
  nucleus_counted Over signs subscript x = record { before = refl; behind = refl }
  nucleus_counted Under signs subscript x = record { before = refl; behind = refl }
  nucleus_counted (Root d) signs subscript x = root_counted (root p s (size_of x) (sign_size signs.before)) signs
  nucleus_counted (Fence left right) signs subscript x =
      record { before = sign_counted _ signs.before; behind = sign_counted _ signs.behind }

-- ---- a fraction has its bar

bar_counted : (t : Bool) (r : Rule) → Counted (elim t [ true ↦ ruled_behind r | false ↦ no_own ]) (bar_counts t)
bar_counted true r = record { before = refl; behind = refl }
bar_counted false r = record { before = refl; behind = refl }

-- ---- any item

own_counted : (p : Parameters) (s : Style) (kind : Kind) (signs : Signs) (x y z : Shape) →
    Counted (arrange p s kind signs x y z).own (own_counts p s kind (which_found signs))
unfolding arrange fraction own_counts
own_counted p s (Scripted base) signs x y z =
    let subscript = is_given (given z) in
    rw (set_own p s (sets_limits s base) (nucleus_of p s base signs subscript x) (given y) (given z)) (nucleus_counted p s base signs subscript x)
own_counted p s (Fraction bar) signs x y z = bar_counted (has_bar (bar_thickness p (font_size s) bar)) _

module _ (p : Parameters) (s : Style) (kind : Kind) (signs : Signs) (x y z : Shape) {found : HasSigns} (is : which_found signs ≡ found) where
  pub own_before : length (arrange p s kind signs x y z).own.before ≡ (own_counts p s kind found).before
  own_before = rw (← is) (own_counted p s kind signs x y z).before

  pub own_behind : length (arrange p s kind signs x y z).own.behind ≡ (own_counts p s kind found).behind
  own_behind = rw (← is) (own_counted p s kind signs x y z).behind

abbrev Few : OwnCounts → Type 0
Few n = n.before + n.behind ≤ 2

few_bar : (t : Bool) → Few (bar_counts t)
few_bar true = omega arith
few_bar false = omega arith

few_root : (found : Bool) → Few (root_counts found)
few_root true = omega arith
few_root false = omega arith

one_sign : (found : Bool) → sign_count found ≤ 1
one_sign true = omega arith
one_sign false = omega arith

few_base : (base : Base) (found : HasSigns) → Few (base_counts base found)
few_base (Atom class limits) found = omega arith
few_base Over found = omega arith
few_base Under found = omega arith
few_base (Root d) found = few_root found.before
few_base (Fence left right) found = omega (arith, one_sign found.before, one_sign found.behind)

pub few_own : (p : Parameters) (s : Style) (kind : Kind) (found : HasSigns) →
    (own_counts p s kind found).before + (own_counts p s kind found).behind ≤ 2
unfolding own_counts
few_own p s (Scripted base) found = few_base base found
few_own p s (Fraction bar) found = few_bar (has_bar (bar_thickness p (font_size s) bar))
