-- An item as it stands on the page (change request 12), from bytes: for every style, table, client's table and formula that setting accepts
-- with room enough, and for every item with fields that is set, at any depth, by the place of its first byte.
--     ItemSetAt      an item that is set in the formula's list, or in the list of a list field at any depth (`SetItem` and `ListFieldAt` of
--                    `ListFields`): its place, the style current at it, and the bytes from it to the end of its own list
--     item_read       what the reading makes of these bytes: the item's kind and its three fields, in that style
--     ItemStands     it is the item that asking why finds at its place (`pick_in`); and of the nodes that setting leaves in the buffer some
--                    stand before it, some after it, and its own are between them, moved by one distance (`ItemOnPage` of crate setting),
--                    each part of it where `arrange` puts it (`PartsOnPage`)
--     item_stands    of every such item
-- Assumes nothing.
use Rattle.std.specs.Prelude.{◌≡◌, refl, List, ◌++◌, ℕ, ◌+◌, ◌*◌, ◌≤◌, length, drop}
use Rattle.std.proofs.Common.{sym, ap, ◌∙◌, append_assoc, arith}
use Rattle.std.proofs.Math.Option.{some}
use Rattle.font.specs.Font.{font_with}
use Rattle.formula.specs.declared.Kind.{Kind}
use Rattle.formula.specs.declared.Opening.TheVariants.{Fields}
use Rattle.formula.specs.Format.{long_format}
use Rattle.formula.specs.Tree.{Items, opening_bytes, list_opening_bytes}
use Rattle.formula.specs.Heads.{opening_of}
use Rattle.formula.specs.Places.{Readable, tree_of, has_third, second, third, field_in, third_in}
use Rattle.formula.specs.PlacesLaws.{readable_of, tree_is}
use Rattle.formula.specs.FormatLaws.{reads_so}
use Rattle.boxes.specs.declared.styles.Style.{Style}
use Rattle.boxes.specs.Styles.{style_of}
use Rattle.boxes.specs.Boxes.{Size}
use Rattle.nodes.specs.Nodes.{Node, bytes_of, bytes_in_node}
use Rattle.nodes.specs.NodeLaws.{bytes_append}
use Rattle.setting.specs.Setting.{Sides, no_sides, set_list, moved_by}
use Rattle.setting.specs.Paths.{whole, into, fill, put, style_at, place_of}
use Rattle.setting.specs.Picked.{Picked, picked, pick_in, picked_item}
use Rattle.setting.specs.ItemOnPage.{SetAt, picked_nodes, ItemOnPage, PartsOnPage}
use Rattle.setting.proofs.ItemOnPage.{item_on_page, parts_on_page}
use Rattle.setting.proofs.PickedSet.{set_picked}
use Rattle.answers.specs.Lent.{Lent}
use Rattle.answers.specs.Answers.{accepted_number, measured, setting, buffer_after}
use Rattle.promises.specs.Accepting.{Accepted, accepted_reads, Page, page_of}
use Rattle.promises.specs.ListFields.{SetItem, ListFieldAt}

-- ---- the item

pub data ItemSetAt (u : Style) (s : List ℕ) : ℕ → Style → List ℕ → Type 0 where
  outermost : {place : ℕ} {v : Style} {item : List ℕ} → SetItem u s place v item → ItemSetAt u s place v item
  in_field : {outer inner : ℕ} {w v : Style} {sides : Sides} {around item : List ℕ} → ListFieldAt u s outer w sides around →
      SetItem w around inner v item → ItemSetAt u s (outer + list_opening_bytes (length around) + inner) v item

abbrev pub item_read : Style → List ℕ → Kind → Picked
item_read v item kind =
    picked v kind (field_in item (opening_bytes kind)) (field_in item (second item kind)) (third_in item (has_third kind) (third item kind))

-- ---- on the page

pub record ItemStands (style : ℕ) (table client : List ℕ) (lent : Lent) (formula : List ℕ) (s : Style) (place : ℕ) (q : Picked) : Type 0 where
  pub tree : Items
  pub reads : Accepted style table client lent formula s tree
  pub set_there : SetAt s place tree q
  pub picks : pick_in s place tree ≡ some q
  pub size : Size
  pub nodes : List Node
  pub page : Page style table client lent formula size nodes
  pub item_there : ItemOnPage (font_with table client) q nodes
  pub parts_there : PartsOnPage (font_with table client) q item_there.reference nodes
  pub buffer_is : (buffer : List ℕ) →
      let bytes = bytes_in_node * (measured style table client lent formula).count in
      bytes ≤ length buffer →
      buffer_after style table client lent formula buffer
      ≡ bytes_of item_there.before
      ++ (bytes_of (moved_by item_there.reference (picked_nodes (font_with table client) q))
      ++ (bytes_of item_there.after ++ drop bytes buffer))
