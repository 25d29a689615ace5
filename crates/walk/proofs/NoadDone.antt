-- What an item with fields comes to, as the setter of items says it.
--     noad_lacks     a symbol is missing in one of its fields
--     noad_done      all three fields stand in the buffer, and the item is finished
-- Assumes nothing.
use Rattle.std.specs.Prelude.{Ok, Err}
use mathlib.Core.Path.{◌≡◌, sym, subst}
use mathlib.Core.List.{List}
use mathlib.Core.Option.{some}
use Prim.Native.Nat.{ℕ, ◌≤◌}
use lib.ListN.{drop}
use Rattle.font.specs.Font.{Font}
use Rattle.formula.specs.declared.Kind.{Kind}
use Rattle.formula.specs.declared.Opening.TheVariants.{Fields}
use Rattle.formula.specs.Heads.{opening_of}
use Rattle.formula.specs.Places.{tree_of, end, item_of}
use Rattle.spacing.specs.Classes.{Neighbour}
use Rattle.nodes.specs.Kept.{Kept}
use Rattle.setting.specs.Setting.{style_behind, next_class, set_item}
use Rattle.setting.specs.Missing.{missing_item}
use Rattle.setting.specs.Fitting.{item_fits}
use Rattle.walk_fields.specs.declared.fields.FieldBox as fields
use Rattle.walk_fields.specs.declared.fields.Missing.{Missing}
use Rattle.walk_fields.specs.declared.lines.Line as lines
use Rattle.walk_fields.specs.Values.{bare_line}
use Rattle.walk_fields.specs.Lists.{Added}
use Rattle.walk_items.specs.NoadLaws.{third_lacks, NoadSet, noad_added}
use Rattle.walk.specs.Walked.{class_behind, ItemDone}
use Rattle.walk.proofs.AlongLaws.{item_as}

-- what the item at the head of some bytes comes to, behind the line l
module _ (F : Font) (kind : Kind) (bytes : List ℕ) (beyond : Neighbour) (l : lines.Line) (b b' : List ℕ) (opens : opening_of bytes ≡ Fields kind) where
  pub noad_lacks : {m : Missing} → missing_item F l.style (item_of bytes (Fields kind)) ≡ some m.place → m.place ≤ end bytes kind →
      Kept (end bytes kind) b b' → ItemDone F beyond bytes l b (Err m) b'
  noad_lacks {m} lacks low kept = item_as F beyond bytes l b b' opens (Err m) (lacks, low, kept)

  pub noad_done : {right : Neighbour} {r : lines.Line} {o₁ o₂ : ℕ} {x y z : fields.FieldBox} {v : List ℕ} →
      NoadSet F l.style kind bytes (next_class l.style beyond (tree_of (drop (end bytes kind) bytes))) right l r o₁ o₂ b x y z v b' →
      ItemDone F beyond bytes l b (Ok (record { bytes = z.end; line = r })) b'
  unfolding style_behind
  noad_done {r = r} {z = z} set =
      let fields = set.fields in
      let i = item_of bytes (Fields kind) in
      let M = set_item F (class_behind l.style beyond bytes (Fields kind)) (bare_line l) i in
      let ends : z.end ≡ end bytes kind = fields.third_whole.end_is in
      item_as F beyond bytes l b b' opens (Ok (record { bytes = z.end; line = r })) (
        third_lacks F l.style kind bytes fields.noad fields.first_whole.present fields.second_whole.present fields.third_whole.present,
        ends,
        subst (λ (n : ℕ). Added (item_fits F l.style i) M n l b r b') (sym ends) (noad_added F l.style kind bytes set),
      )
