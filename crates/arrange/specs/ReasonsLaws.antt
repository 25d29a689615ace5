-- The reasons of an item are true.
--     reasons_true     true of what its shifts go through
--     used             the shifts that are given with them are those at which `arrange` puts its fields
-- Assumes nothing.
use Rattle.std.specs.Prelude.{◌≡◌, Bool, true, false, ℕ, ℤ}
use Rattle.std.proofs.Math.Path.{ap, subst}
use Rattle.std.proofs.Common.{◌∙◌, arith}
use Rattle.std.proofs.Math.Option.{Option, some}
use Rattle.std.proofs.Math.IntN.{neg_ℤ}
use Rattle.formula.specs.declared.Kind.{Kind}
use Rattle.formula.specs.declared.Kind.TheVariants.{Scripted, Fraction}
use Rattle.boxes.specs.declared.styles.Style.{Style}
use Rattle.boxes.specs.Parameters.{Parameters}
use Rattle.boxes.specs.Boxes.{Size, Shape, size_of, given, Arranged}
use Rattle.delimiters.specs.Delimiters.{Signs}
use Rattle.nucleus.specs.Nucleus.{Nucleus}
use Rattle.reasons.specs.Reasons.{Reasons}
use Rattle.reasons.specs.Stages.{AllTrue}
use Rattle.script_reasons.specs.Stages.{script_stages}
use Rattle.script_reasons.proofs.ReasonsLaws.{scripts_true, scripts_used}
use Rattle.fractions.specs.Reasons.{fraction_reasons}
use Rattle.fractions.specs.Stages.{fraction_stages}
use Rattle.fractions.proofs.ReasonsLaws.{fraction_true, fraction_used}
use Rattle.arrange_rules.specs.Arrange.{is_given, sets_limits, nucleus_of, set_scripts, arrange}
use Rattle.arrange.specs.Reasons.{beside_reasons, reasons, item_stages}

-- how far up the field stands that is shifted up, a superscript or a numerator
abbrev pub raised : Kind → Arranged → ℤ
raised (Scripted base) a = a.second.up
raised (Fraction bar) a = a.first.up

-- and that which is shifted down, a subscript or a denominator
abbrev pub lowered : Kind → Arranged → ℤ
lowered (Scripted base) a = a.third.up
lowered (Fraction bar) a = a.second.up

module _ (p : Parameters) (s : Style) where
  beside_used : (limits : Bool) (n : Nucleus) (x y : Option Size) (r : Reasons) → beside_reasons p s limits n x y ≡ some r →
      ((set_scripts p s limits n x y).second.up ≡ r.up.shift) × ((set_scripts p s limits n x y).third.up ≡ neg_ℤ r.down.shift)
  beside_used true n x y r e = let z : ◌≡◌ {A = ℕ} 0 1 = cc in absurd (omega arith)
  beside_used false n x y r e = scripts_used p s n x y r e

  beside_true : (limits : Bool) (n : Nucleus) (x y : Option Size) (r : Reasons) → beside_reasons p s limits n x y ≡ some r →
      AllTrue (script_stages p s n x y) r
  beside_true true n x y r e = let z : ◌≡◌ {A = ℕ} 0 1 = cc in absurd (omega arith)
  beside_true false n x y r e = scripts_true p s n x y r e

  pub reasons_true : (kind : Kind) (signs : Signs) (x y z : Shape) (r : Reasons) → reasons p s kind signs x y z ≡ some r →
      AllTrue (item_stages p s kind signs x y z) r
  unfolding reasons item_stages
  reasons_true (Scripted base) signs x y z r e =
      beside_true (sets_limits s base) (nucleus_of p s base signs (is_given (given z)) x) (given y) (given z) r e
  reasons_true (Fraction bar) signs x y z r e =
      let is : fraction_reasons p s bar (size_of x) (size_of y) ≡ r = cc in
      subst (AllTrue (fraction_stages p s bar (size_of x) (size_of y))) is (fraction_true p s bar (size_of x) (size_of y))

  pub used : (kind : Kind) (signs : Signs) (x y z : Shape) (r : Reasons) → reasons p s kind signs x y z ≡ some r →
      (raised kind (arrange p s kind signs x y z) ≡ r.up.shift) × (lowered kind (arrange p s kind signs x y z) ≡ neg_ℤ r.down.shift)
  unfolding reasons arrange
  used (Scripted base) signs x y z r e =
      beside_used (sets_limits s base) (nucleus_of p s base signs (is_given (given z)) x) (given y) (given z) r e
  used (Fraction bar) signs x y z r e =
      let there = fraction_used p s bar (size_of x) (size_of y) in
      let is : fraction_reasons p s bar (size_of x) (size_of y) ≡ r = cc in
      (there.0 ∙ ap (λ (t : Reasons). t.up.shift) is, there.1 ∙ ap (λ (t : Reasons). neg_ℤ t.down.shift) is)
