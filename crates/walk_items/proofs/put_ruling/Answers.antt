-- `put_ruling` meets its contract: no node without a rule, and one at x with it.
-- Assumes nothing.
use mathlib.Core.Path.{◌≡◌, refl, sym, ap, ◌∙◌}
use mathlib.Core.Bool.{or-false}
use mathlib.Core.List.{[], ◌∷◌}
use native.Mathlib.Omega.{arith}
use lib.IntN.{pos, ◌+ℤ◌}
use Rattle.boxes.specs.Boxes.{ruled}
use Rattle.boxes.specs.Values.{rule_as}
use Rattle.nodes.specs.Nodes.{Node, rule, moved, moved_node}
use Rattle.nodes.specs.Buffer.{put, behind_nodes}
use Rattle.nodes.specs.Hull.{joined, hull}
use Rattle.nodes.specs.HullLaws.{join_none, hull_node}
use Rattle.nodes.specs.Values.{hull_of, is_large}
use Rattle.setting.specs.Setting.{own_node, own_nodes}
use Rattle.walk_items.specs.Items.{own_put}
use Rattle.walk_items.specs.ItemLaws.{rule_moved}
use Rattle.walk_items.proofs.put_ruling.Goals as goal

pub returns-in-None : goal.returns-in-None
unfolding own_put own_nodes moved hull
returns-in-None c =
    rw c.in-None.is
    (record {
      count_is = omega arith;
      large_is = refl;
      hull_is = sym (join_none (hull_of c.args.before));
      buffer_is = refl;
    })

pub returns-in-Some : goal.returns-in-Some
unfolding own_put own_nodes moved
returns-in-Some c =
    let before = c.args.before in
    let r = c.in-Some.r in
    let x = c.args.x.0 in
    let n = rule (x +ℤ r.corner.across.0) r.corner.up.0 r.width.0 r.thickness.0 in
    let node : moved_node x (pos 0) (own_node (ruled (rule_as r))) ≡ n = rule_moved x (rule_as r) in
    let at : c.plus-dx.result.0 ≡ x +ℤ r.corner.across.0 = c.plus-dx.ensures.is in
    let point = c.point.ensures in
    let one = point.count_is in
    rw c.in-Some.is
    (record {
      count_is = omega (arith, c.joined.ensures.count_is);
      large_is = c.joined.ensures.large_is ∙ rw point.large_is (or-false (is_large before));
      hull_is = c.joined.ensures.hull_is ∙ ap (joined (hull_of before)) (point.hull_is ∙ rw at (sym (hull_node n)) ∙ ap (λ (m : Node). hull (m ∷ [])) (sym node));
      buffer_is = c.put_rule.ensures ∙ rw at (ap (λ (m : Node). behind_nodes before.count (put m) c.args.buf.now) (sym node));
    })
