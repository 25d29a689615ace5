-- `line_field` meets its contract: a list that fits is moderate, and its nodes are within the greatest length.
-- Assumes nothing.
use mathlib.Core.Path.{◌≡◌, refl, sym, ap, ◌∙◌}
use mathlib.Core.Bool.{true, false, not, ◌&&◌, and-eq-true_iff}
use Prim.Native.Nat.{ℕ}
use native.Mathlib.Omega.{arith}
use borrow.Author.Tests.{not-true}
use Rattle.boxes.specs.declared.Shape.TheVariants.{Nothing, Box}
use Rattle.boxes.specs.Values.{size_as}
use Rattle.nodes.specs.declared.run.Run.{Run}
use Rattle.nodes.specs.Bounds.{within}
use Rattle.nodes.specs.Hull.{hull_fits}
use Rattle.nodes.specs.HullLaws.{within_true, fits_within}
use Rattle.nodes.specs.Values.{hull_of, is_large, LargeRun}
use Rattle.setting.specs.Fitting.{size_fits}
use Rattle.walk_fields.specs.declared.lines.Line as lines
use Rattle.walk_fields.specs.Values.{line_fits}
use Rattle.walk_fields.specs.Fields.{LineField}
use Rattle.walk_fields.proofs.growing.line_field.Goals as goal

module _ (end : ℕ) (l : lines.Line) where
  list_whole : line_fits l ≡ true → LineField end l (record { end = end; shape = Box l.size; run = l.run })
  list_whole e =
      let z = l.size in
      let both = (and-eq-true_iff (not (is_large l.run) && hull_fits (hull_of l.run)) (size_fits (size_as z))).0 e in
      let reach = (and-eq-true_iff (not (is_large l.run)) (hull_fits (hull_of l.run))).0 both.0 in
      let size = (and-eq-true_iff (within z.width.0 && within z.height.0) (within z.depth.0)).0 both.1 in
      let sides = (and-eq-true_iff (within z.width.0) (within z.height.0)).0 size.0 in
      let width = within_true z.width.0 sides.0 in
      let height = within_true z.height.0 sides.1 in
      let depth = within_true z.depth.0 size.1 in
      record {
        end_is = refl;
        large_is = not-true (is_large l.run) reach.0 ∙ ap not (sym e);
        shape = record { width = omega arith; height = omega arith; depth = omega arith };
        count = omega arith;
        hull = fits_within (hull_of l.run) reach.1;
        is = λ h. (refl, refl);
      }

  list_large : {r : Run} → line_fits l ≡ false → LargeRun r → LineField end l (record { end = end; shape = Nothing; run = r })
  list_large e large =
      let none_there = large.count_is in
      record {
        end_is = refl;
        large_is = large.large_is ∙ ap not (sym e);
        shape = tt;
        count = omega arith;
        hull = rw large.hull_is tt;
        is = λ h. let never : ◌≡◌ {A = ℕ} 0 1 = cc in absurd (omega arith);
      }

pub returns-then-list_fits : goal.returns-then-list_fits
returns-then-list_fits c = list_whole c.args.end c.args.line (sym c.list_fits.ensures ∙ c.if-list_fits.true)

pub returns-else-list_fits : goal.returns-else-list_fits
returns-else-list_fits c =
    list_large c.args.end c.args.line (sym c.list_fits.ensures ∙ c.if-list_fits.false) c.too_large.ensures
