-- Mark and place, two words, and the end of the line.
use Rattle.texts.specs.Refusals.{space}
use Rattle.listing.specs.Texts.{node_text}
use Rattle.texts.specs.PutLaws.{line_more, line_ended}
use Rattle.listing.proofs.rule_text.Goals as goal

pub returns : goal.returns
unfolding node_text
returns c =
    line_ended
    (line_more space c.number_at-2.result
    (line_more space c.number_at.result c.put_place-a.ensures.put c.number_at.ensures c.put_number-b.ensures)
    c.number_at-2.ensures c.put_number-c.ensures)
    c.put_bytes.ensures
