-- Every item that is set stands in the tree and on the page: the laws of `specs/ItemsOnPage.antt`.
-- Assumes nothing.
use Rattle.std.specs.Prelude.{◌≡◌, refl, List, ◌++◌, ℕ, ◌+◌, ◌*◌, ◌≤◌, length, drop}
use Rattle.std.proofs.Common.{sym, ap, ◌∙◌, append_assoc, arith}
use Rattle.std.proofs.Math.Option.{some}
use Rattle.font.specs.Font.{font_with}
use Rattle.formula.specs.declared.Kind.{Kind}
use Rattle.formula.specs.declared.Opening.TheVariants.{Fields}
use Rattle.formula.specs.Format.{long_format}
use Rattle.formula.specs.Tree.{Items, opening_bytes, list_opening_bytes}
use Rattle.formula.specs.Heads.{opening_of}
use Rattle.formula.specs.Places.{Readable, tree_of, has_third, second, third, field_in, third_in}
use Rattle.formula.specs.PlacesLaws.{readable_of, tree_is}
use Rattle.formula.specs.FormatLaws.{reads_so}
use Rattle.boxes.specs.declared.styles.Style.{Style}
use Rattle.boxes.specs.Styles.{style_of}
use Rattle.boxes.specs.Boxes.{Size}
use Rattle.nodes.specs.Nodes.{Node, bytes_of, bytes_in_node}
use Rattle.nodes.specs.NodeLaws.{bytes_append}
use Rattle.setting.specs.Setting.{Sides, no_sides, set_list, moved_by}
use Rattle.setting.specs.Paths.{whole, into, fill, put, style_at, place_of}
use Rattle.setting.specs.Picked.{Picked, picked, pick_in, picked_item}
use Rattle.setting.specs.ItemOnPage.{SetAt, picked_nodes, ItemOnPage, PartsOnPage}
use Rattle.setting.proofs.ItemOnPage.{item_on_page, parts_on_page}
use Rattle.setting.proofs.PickedSet.{set_picked}
use Rattle.answers.specs.Lent.{Lent}
use Rattle.answers.specs.Answers.{accepted_number, measured, setting, buffer_after}
use Rattle.promises.specs.Accepting.{Accepted, accepted_reads, Page, page_of}
use Rattle.promises.specs.ListFields.{SetItem, ListFieldAt}
use Rattle.promises.proofs.ListFields.{spot_of, reached}
use Rattle.promises.specs.ItemsOnPage.{ItemSetAt, item_read, ItemStands, outermost, in_field}

-- it stands in the tree
pub set_in_tree : (u : Style) (formula : List ℕ) → Readable formula → {place : ℕ} {v : Style} {item : List ℕ} →
    ItemSetAt u formula place v item → (kind : Kind) → opening_of item ≡ Fields kind → SetAt u place (tree_of formula) (item_read v item kind)
set_in_tree u formula r (outermost h) kind e =
    let m = spot_of h r kind e in
    record {
      site = record { path = whole; spot = m.spot };
      formula_is = m.tree;
      style_is = m.style;
      place_is = omega (arith, m.place);
      has_fields = tt;
    }
set_in_tree u formula r (in_field {inner = inner} {w} {v} {around = around} {item} h k) kind e =
    let o = reached u formula r h in
    let p = into o.p o.t in
    let there : SetItem (style_at u p) around inner v item = rw o.style k in
    let m = spot_of there o.readable kind e in
    let outer = ap (place_of u p) m.tree in
    record {
      site = record { path = p; spot = m.spot };
      formula_is = o.tree ∙ ap (fill u p) m.tree;
      style_is = m.style;
      place_is = omega (arith, outer, o.there, m.place);
      has_fields = o.has_fields;
    }

set_stands : {style : ℕ} {table client : List ℕ} {lent : Lent} {formula : List ℕ} {s : Style} {place : ℕ} {q : Picked} {tree : Items} →
    Accepted style table client lent formula s tree → SetAt s place tree q → ItemStands style table client lent formula s place q
set_stands {style} {table} {client} {lent} {formula} {s} {place} {q} {tree} reads h =
    let F = font_with table client in
    let b = set_list F no_sides s tree in
    let there = item_on_page F h in
    let page = page_of reads in
    record {
      tree = tree;
      reads = reads;
      set_there = h;
      picks = set_picked h;
      size = b.size;
      nodes = b.nodes;
      page = page;
      item_there = there;
      parts_there = parts_on_page there;
      buffer_is = λ buffer enough.
          page.buffer_is buffer enough
          ∙ ap (λ (ns : List Node). bytes_of ns ++ drop (bytes_in_node * (measured style table client lent formula).count) buffer) there.page_is
          ∙ simp (bytes_append, append_assoc);
    }

pub item_stands : (style : ℕ) (table client : List ℕ) (lent : Lent) (formula : List ℕ) (room : ℕ) →
    (setting style table client lent formula room).number ≡ accepted_number →
    (s : Style) → style_of style ≡ some s → (place : ℕ) (v : Style) (item : List ℕ) → ItemSetAt s formula place v item →
    (kind : Kind) → opening_of item ≡ Fields kind → ItemStands style table client lent formula s place (item_read v item kind)
item_stands style table client lent formula room e s is place v item h kind opens =
    let a = accepted_reads style table client lent formula room e in
    let read = (reads_so long_format formula a.1 a.2.reads).1 in
    let set = set_in_tree s formula (readable_of formula _ a.1 read) h kind opens in
    let reads : Accepted style table client lent formula s a.1 =
    record { style_is = is; reads = a.2.reads; room = room; is_accepted = e }
    in
    set_stands reads (rw (tree_is formula _ a.1 read) at set)
