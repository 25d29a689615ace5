-- Two marks with their numbers, and the end of the line.
use Rattle.texts.specs.Refusals.{refused_mark, at_mark}
use Rattle.texts.specs.PutLaws.{number_put, line_more, line_ended}
use Rattle.texts.proofs.refusal_text.Goals as goal

pub returns : goal.returns
returns c =
    line_ended
    (line_more at_mark c.of_count-2.result
    (number_put refused_mark c.of_count.result c.of_count.ensures c.put_number-a.ensures)
    c.of_count-2.ensures c.put_number-b.ensures)
    c.put_bytes.ensures
