-- The clearances on the finished page (change request 12), from bytes: for every style, table, client's table and formula that setting accepts.
--     ItemKeeps      an item stands on the page (`ItemOnPage`, `PartsOnPage` of crate setting), and keeps clear what it has to (`ItemClear`): four
--                    rules between scripts that are no limits, φ between a bar and the parts of its fraction, or between the parts, and the bar's middle
--                    is within half a scaled point of the axis
--     Clearances     all ink of the nodes that setting leaves in the buffer lies between the depth and the height that are answered; each
--                    glyph's symbol is in the font; every item with fields that is set, at any depth, keeps clear what it has to
--     clearances     of every acceptance
-- Assumes nothing.
use Rattle.std.specs.Prelude.{◌≡◌, List, ℕ, neg_ℤ}
use Rattle.std.proofs.Common.{subst}
use Rattle.std.proofs.Math.Option.{some}
use Rattle.font.specs.Font.{Font, font_with}
use Rattle.formula.specs.declared.Kind.{Kind}
use Rattle.formula.specs.declared.Opening.TheVariants.{Fields}
use Rattle.formula.specs.Format.{long_format}
use Rattle.formula.specs.FormatLaws.{reads_so}
use Rattle.formula.specs.Heads.{opening_of}
use Rattle.formula.specs.PlacesLaws.{readable_of, tree_is}
use Rattle.formula.specs.Tree.{Items}
use Rattle.boxes.specs.declared.styles.Style.{Style}
use Rattle.boxes.specs.Styles.{style_of}
use Rattle.boxes.specs.Boxes.{Size}
use Rattle.nodes.specs.Nodes.{Node}
use Rattle.setting.specs.Setting.{no_sides, set_list}
use Rattle.setting.specs.Picked.{Picked, picked_item}
use Rattle.setting.specs.ItemOnPage.{SetAt, ItemOnPage, PartsOnPage}
use Rattle.setting.proofs.ItemOnPage.{item_on_page, parts_on_page}
use Rattle.setting.proofs.Formed.{Formed, read_formed, formed_at}
use Rattle.setting.specs.Ink.{HasSymbol, Every, InkBetween, InkIn}
use Rattle.setting.proofs.InkLaws.{every_so, inked_symbol}
use Rattle.setting.proofs.BoxInk.{list_ink}
use Rattle.setting.proofs.Clearances.{ItemClear, item_clear}
use Rattle.answers.specs.Lent.{Lent}
use Rattle.answers.specs.Answers.{accepted_number, setting}
use Rattle.promises.specs.Accepting.{Accepted, accepted_reads, Page, page_of}
use Rattle.promises.specs.ItemsOnPage.{ItemSetAt, item_read}
use Rattle.promises.proofs.ItemsOnPage.{set_in_tree}

pub record ItemKeeps (F : Font) (q : Picked) (nodes : List Node) : Type 0 where
  pub item_there : ItemOnPage F q nodes
  pub parts_there : PartsOnPage F q item_there.reference nodes
  pub clear : ItemClear F q item_there.reference

pub record Clearances (style : ℕ) (table client : List ℕ) (lent : Lent) (formula : List ℕ) (s : Style) : Type 0 where
  pub size : Size
  pub nodes : List Node
  pub page : Page style table client lent formula size nodes
  pub inside : InkIn (font_with table client) size nodes
  pub symbols : Every (HasSymbol (font_with table client)) nodes
  pub items : (place : ℕ) (v : Style) (item : List ℕ) → ItemSetAt s formula place v item → (kind : Kind) → opening_of item ≡ Fields kind →
      ItemKeeps (font_with table client) (item_read v item kind) nodes

-- of an item that is set in a formed tree
item_keeps : (F : Font) {s : Style} {place : ℕ} {tree : Items} {q : Picked} → Formed tree → SetAt s place tree q →
    ItemKeeps F q (set_list F no_sides s tree).nodes
item_keeps F {s} {q = q} formed h =
    let there = item_on_page F h in
    record {
      item_there = there;
      parts_there = parts_on_page there;
      clear = item_clear F q there.reference (formed_at s h.site (picked_item q) (subst Formed h.formula_is formed));
    }

pub clearances : (style : ℕ) (table client : List ℕ) (lent : Lent) (formula : List ℕ) (room : ℕ) →
    (setting style table client lent formula room).number ≡ accepted_number → (s : Style) → style_of style ≡ some s →
    Clearances style table client lent formula s
clearances style table client lent formula room e s is =
    let F = font_with table client in
    let a = accepted_reads style table client lent formula room e in
    let tree = a.1 in
    let reads : Accepted style table client lent formula s tree = record { style_is = is; reads = a.2.reads; room = room; is_accepted = e } in
    let read = (reads_so long_format formula tree a.2.reads).1 in
    let formed = read_formed formula tree a.2.reads in
    let b = set_list F no_sides s tree in
    let inside = (list_ink F no_sides s tree formed).ink in
    record {
      size = b.size;
      nodes = b.nodes;
      page = page_of reads;
      inside = inside;
      symbols =
          every_so (InkBetween F (neg_ℤ b.size.depth) b.size.height) (HasSymbol F) b.nodes
          (inked_symbol F (neg_ℤ b.size.depth) b.size.height) inside;
      items = λ place v item h kind opens.
          item_keeps F formed (rw (tree_is formula _ tree read) at (set_in_tree s formula (readable_of formula _ tree read) h kind opens));
    }
