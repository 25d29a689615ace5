-- A mark with its number, and the rest of the line.
use Rattle.texts.specs.Refusals.{too_long_mark}
use Rattle.texts.specs.PutLaws.{number_put, line_ended}
use Rattle.texts.proofs.too_long_text.Goals as goal

pub returns : goal.returns
returns c =
    line_ended (number_put too_long_mark c.of_count.result c.of_count.ensures c.put_number-a.ensures) c.put_bytes.ensures
