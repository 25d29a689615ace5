-- Mark and place, three bytes, and the end of the line.
use Rattle.texts.specs.Refusals.{space}
use Rattle.listing.specs.Texts.{node_text}
use Rattle.texts.specs.PutLaws.{line_more, line_ended}
use Rattle.listing.proofs.glyph_text.Goals as goal

pub returns : goal.returns
unfolding node_text
returns c =
    line_ended
    (line_more space c.of_byte-3.result
    (line_more space c.of_byte-2.result
    (line_more space c.of_byte.result c.put_place-a.ensures.put c.of_byte.ensures c.put_number-b.ensures)
    c.of_byte-2.ensures c.put_number-c.ensures)
    c.of_byte-3.ensures c.put_number-d.ensures)
    c.put_bytes.ensures
