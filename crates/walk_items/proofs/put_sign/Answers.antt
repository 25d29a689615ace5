-- `put_sign` meets its contract: no node without a sign, and one at x with it, in the part of the buffer behind the others.
-- Assumes nothing.
use mathlib.Core.Path.{◌≡◌, refl, sym, ap, ◌∙◌}
use mathlib.Core.Bool.{or-false}
use mathlib.Core.List.{[], ◌∷◌}
use native.Mathlib.Omega.{arith}
use lib.IntN.{pos, ◌+ℤ◌}
use Rattle.boxes.specs.Boxes.{signed}
use Rattle.boxes.specs.Values.{glyph_as}
use Rattle.nodes.specs.Nodes.{Node, glyph, moved, moved_node}
use Rattle.nodes.specs.Buffer.{put, behind_nodes}
use Rattle.nodes.specs.Hull.{joined, hull}
use Rattle.nodes.specs.HullLaws.{join_none, hull_node}
use Rattle.nodes.specs.Lent.{behind_lent}
use Rattle.nodes.specs.Values.{hull_of, is_large}
use Rattle.setting.specs.Setting.{own_node, own_nodes}
use Rattle.walk_items.specs.Items.{own_put}
use Rattle.walk_items.specs.ItemLaws.{sign_moved}
use Rattle.walk_items.proofs.put_sign.Goals as goal

pub returns-in-None : goal.returns-in-None
unfolding own_put own_nodes moved hull
returns-in-None c =
    rw c.in-None.is
    (record {
      count_is = omega arith;
      large_is = refl;
      hull_is = sym (join_none (hull_of c.args.before));
      buffer_is = refl;
    })

pub returns-in-Some : goal.returns-in-Some
unfolding own_put own_nodes moved
returns-in-Some c =
    let before = c.args.before in
    let g = c.in-Some.g in
    let x = c.args.x.0 in
    let n = glyph (x +ℤ g.place.across.0) g.place.up.0 g.size g.family g.code in
    let node : moved_node x (pos 0) (own_node (signed (glyph_as g))) ≡ n = sign_moved x (glyph_as g) in
    let at : c.plus-dx.result.0 ≡ x +ℤ g.place.across.0 = c.plus-dx.ensures.is in
    let point = c.point.ensures in
    let one = point.count_is in
    rw c.in-Some.is
    (record {
      count_is = omega (arith, c.joined.ensures.count_is);
      large_is = c.joined.ensures.large_is ∙ rw point.large_is (or-false (is_large before));
      hull_is = c.joined.ensures.hull_is ∙ ap (joined (hull_of before)) (point.hull_is ∙ rw at (sym (hull_node n)) ∙ ap (λ (m : Node). hull (m ∷ [])) (sym node));
      buffer_is =
          behind_lent before.count (put n) c.args.buf.now _ c.room-j.ensures (c.put_glyph.ensures ∙ rw at)
          ∙ ap (λ (m : Node). behind_nodes before.count (put m) c.args.buf.now) (sym node);
    })
