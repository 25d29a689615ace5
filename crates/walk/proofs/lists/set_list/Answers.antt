-- `set_list` meets its contract: a list is its items behind an empty line.
-- Assumes nothing.
use lib.ListN.{length}
use Rattle.font.specs.Font.{font_in}
use Rattle.formula.specs.Places.{tree_of}
use Rattle.walk_fields.specs.ListLaws.{start_within, list_of_items}
use Rattle.walk.proofs.lists.set_list.Goals as goal

pub set_items-requires : goal.set_items-requires
set_items-requires c = record { list = c.requires; small = start_within _ c.start.ensures }

pub returns : goal.returns
returns c =
    let a = c.args in
    let s = a.s.now in
    list_of_items (font_in a.font.now) (tree_of s) (length s) a.buf.now c.set_items.new.buf c.set_items.result
    c.start.ensures c.set_items.ensures
