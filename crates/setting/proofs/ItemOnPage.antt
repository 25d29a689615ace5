-- An item that is set stands on the page, and so do its parts: the laws of `specs/ItemOnPage.antt`.
-- Assumes nothing.
use Rattle.std.specs.Prelude.{◌≡◌, ℕ, ◌+◌, ℤ, ◌+ℤ◌}
use Rattle.std.proofs.Common.{ap, subst, ◌∙◌}
use mathlib.Core.List.{List, [], ◌++◌, append_assoc}
use Rattle.font.specs.Font.{Font}
use Rattle.formula.specs.declared.Kind.{Kind}
use Rattle.formula.specs.declared.Kind.TheVariants.{Scripted, Fraction}
use Rattle.formula.specs.Tree.{Items, Item, Field, noad}
use Rattle.boxes.specs.declared.styles.Style.{Style}
use Rattle.boxes.specs.Boxes.{Size, Offset, Arranged}
use Rattle.nodes.specs.Nodes.{Node, moved}
use Rattle.nodes.specs.NodeLaws.{moved_append, moved_twice}
use Rattle.arrange.specs.ReasonsLaws.{raised, lowered}
use Rattle.setting.specs.Setting.{Box, FieldBox, no_sides, moved_by, own_nodes, item_nodes, item_box, set_list}
use Rattle.setting.specs.Frames.{Frame, framed, nest, further, framed_nest, first_frame, second_frame, third_frame, first_framed, second_framed, third_framed}
use Rattle.setting.specs.Paths.{Spot, put, spot_style, spot_place, Path, fill, style_at, sides_at, place_of, HasFields}
use Rattle.setting.specs.FieldInPlace.{item_set, list_frame, list_size, list_around, frame, box_around}
use Rattle.setting.proofs.FieldInPlace.{list_in_place, field_in_place}
use Rattle.setting.specs.Picked.{Picked, picked_item, picked_first, picked_second, picked_third, picked_arranged}
use Rattle.setting.specs.ItemOnPage as defs
use Rattle.setting.specs.ItemOnPage.{Site, SetAt, picked_nodes, ItemOnPage, Run, PartsOnPage, StandsAbove, raised_of, lowered_of, raised_field, lowered_field, site_style, list_there, with_item}

-- ---- an item that is set stands on the page
module _ (F : Font) (s : Style) (t : Site) (kind : Kind) where
  abbrev site_frame : Size → Frame
  site_frame = defs.site_frame F s t kind

  item_in_place : (x y z : Field) →
      let b = item_set F (site_style s t) kind x y z in
      (set_list F no_sides s (with_item s t (noad kind x y z))).nodes ≡ framed (site_frame b.size) b.nodes
  item_in_place x y z =
      let u = style_at s t.path in
      let sides = sides_at s t.path in
      let b = item_set F (site_style s t) kind x y z in
      ap (λ (w : Box). w.nodes)
      (field_in_place F s t.path (list_there s t (noad kind x y z))
      ∙ ap (box_around F s t.path) (list_in_place F sides u t.spot kind x y z))
      ∙ framed_nest (frame F s t.path (list_size F sides u t.spot kind b.size)) (list_frame F sides u t.spot kind b.size) b.nodes

pub item_on_page : (F : Font) {s : Style} {place : ℕ} {formula : Items} {q : Picked} → SetAt s place formula q →
    ItemOnPage F q (set_list F no_sides s formula).nodes
unfolding item_box
item_on_page F {s} {q = q} h =
    let t = h.site in
    let f : Style → Frame = λ u. site_frame F s t q.kind (item_set F u q.kind q.first q.second q.third).size in
    record {
      before = (f q.style).before;
      reference = (f q.style).distance;
      after = (f q.style).after;
      page_is =
          ap (λ (l : Items). (set_list F no_sides s l).nodes) h.formula_is
          ∙ item_in_place F s t q.kind q.first q.second q.third
          ∙ ap (λ (u : Style). framed (f u) (item_set F u q.kind q.first q.second q.third).nodes) h.style_is;
    }

-- ---- its parts
module _ {F : Font} {q : Picked} {page : List Node} (h : ItemOnPage F q page) where
  -- a run of its nodes
  part_run : (l m r : List Node) → picked_nodes F q ≡ l ++ (m ++ r) → Run (moved_by h.reference m) page
  part_run l m r e =
      record {
        before = h.before ++ moved_by h.reference l;
        after = moved_by h.reference r ++ h.after;
        page_is =
            h.page_is
            ∙ ap (λ (ns : List Node). h.before ++ (moved_by h.reference ns ++ h.after)) e
            ∙ simp (moved_append, append_assoc);
      }

  -- a field's nodes in it
  field_run : (f : Frame) (ns : List Node) → picked_nodes F q ≡ framed f ns → Run (moved_by (further h.reference f.distance) ns) page
  field_run f ns e =
      subst (λ (ms : List Node). Run ms page) (moved_twice _ _ _ _ ns) (part_run f.before (moved_by f.distance ns) f.after e)

  pub parts_on_page : PartsOnPage F q h.reference page
  unfolding item_nodes
  parts_on_page =
      let a = picked_arranged F q in
      let x = picked_first F q in
      let y = picked_second F q in
      let z = picked_third F q in
      let own = own_nodes a.own.before in
      let first = moved_by a.first x.nodes in
      let behind = own_nodes a.own.behind in
      let second = moved_by a.second y.nodes in
      let third = moved_by a.third z.nodes in
      record {
        own_before = part_run [] own (first ++ behind ++ second ++ third) (simp append_assoc);
        first = field_run (first_frame a y z) x.nodes (first_framed a x y z);
        own_behind = part_run (own ++ first) behind (second ++ third) (simp append_assoc);
        second = field_run (second_frame a x z) y.nodes (second_framed a x y z);
        third = field_run (third_frame a x y) z.nodes (third_framed a x y z);
      }

module _ {F : Font} {q : Picked} {page : List Node} (h : ItemOnPage F q page) where
  above : (d : Offset) (shift : ℤ) (ns : List Node) → d.up ≡ shift → Run (moved_by (further h.reference d) ns) page →
      StandsAbove h.reference shift ns page
  above d shift ns e run =
      record {
        across = d.across +ℤ h.reference.across;
        run = subst (λ (z : ℤ). Run (moved (d.across +ℤ h.reference.across) (z +ℤ h.reference.up) ns) page) e run;
      }

  pub raised_on_page : {shift : ℤ} → raised q.kind (picked_arranged F q) ≡ shift →
      StandsAbove h.reference shift (raised_field F q).nodes page
  raised_on_page {shift} = go q.kind
    where
      a : Arranged
      a = picked_arranged F q

      go : (kind : Kind) → raised kind a ≡ shift →
          StandsAbove h.reference shift (raised_of kind (picked_first F q) (picked_second F q) (picked_third F q)).nodes page
      go (Scripted base) e = above a.second shift (picked_second F q).nodes e (parts_on_page h).second
      go (Fraction bar) e = above a.first shift (picked_first F q).nodes e (parts_on_page h).first

  pub lowered_on_page : {shift : ℤ} → lowered q.kind (picked_arranged F q) ≡ shift →
      StandsAbove h.reference shift (lowered_field F q).nodes page
  lowered_on_page {shift} = go q.kind
    where
      a : Arranged
      a = picked_arranged F q

      go : (kind : Kind) → lowered kind a ≡ shift →
          StandsAbove h.reference shift (lowered_of kind (picked_first F q) (picked_second F q) (picked_third F q)).nodes page
      go (Scripted base) e = above a.third shift (picked_third F q).nodes e (parts_on_page h).third
      go (Fraction bar) e = above a.second shift (picked_second F q).nodes e (parts_on_page h).second
