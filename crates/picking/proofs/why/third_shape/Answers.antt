-- `third_shape` meets its contract, by whether there is a third field.
-- Assumes nothing.
use Rattle.std.proofs.Common.{◌≡◌, ℕ, List, Bool, true, false, refl, sym, subst, ◌∙◌}
use Rattle.font.specs.Font.{Font, font_in}
use Rattle.formula.specs.Places.{third_in}
use Rattle.formula.specs.PlacesLaws.{third_good}
use Rattle.boxes.specs.declared.styles.Style.{Style}
use Rattle.boxes.specs.declared.Shape.{Shape}
use Rattle.boxes.specs.declared.Shape.TheVariants.{Nothing}
use Rattle.arrange.specs.declared.Manner.TheVariants.{Plain}
use Rattle.arrange.specs.Arrange.{third_style}
use Rattle.setting.specs.Setting.{set_field}
use Rattle.picking.specs.Picking.{ShapeDone}
use Rattle.picking.proofs.why.third_shape.Goals as goal

-- the shape of the third field, if there is one
module _ (F : Font) (style : Style) (s : List ℕ) (at : ℕ) {has : Bool} {shape : Shape} where
  there_is : has ≡ true → ShapeDone F (third_style style) Plain at (third_in s true at) shape → ShapeDone F (third_style style) Plain at (third_in s has at) shape
  there_is e d = subst (λ (t : Bool). ShapeDone F (third_style style) Plain at (third_in s t at) shape) (sym e) d

  none_there : has ≡ false → shape ≡ Nothing → ShapeDone F (third_style style) Plain at (third_in s has at) shape
  unfolding set_field
  none_there e is =
      subst (λ (t : Bool). ShapeDone F (third_style style) Plain at (third_in s t at) shape) (sym e)
      (rw is (record { moderate = tt; is = λ there fits. refl }))

pub shape_of-requires-then-has_third : goal.shape_of-requires-then-has_third
shape_of-requires-then-has_third c =
    let pre = c.requires in
    let has = sym c.has_third.ensures ∙ c.if-has_third.true in
    record { good = third_good _ _ _ has pre.good; inside = pre.inside; short = pre.short }

pub returns-then-has_third : goal.returns-then-has_third
returns-then-has_third c =
    let a = c.args in
    there_is (font_in a.font.now) a.style a.s.now a.at (sym c.has_third.ensures ∙ c.if-has_third.true)
    (rw c.third_style.ensures at c.shape_of.ensures)

pub returns : goal.returns
returns c =
    let a = c.args in
    none_there (font_in a.font.now) a.style a.s.now a.at (sym c.has_third.ensures ∙ c.if-has_third.false) refl
