-- Four marks with their numbers, and the end of the line.
use Rattle.listing.specs.Texts.{width_mark, height_mark, depth_mark, count_mark}
use Rattle.texts.specs.PutLaws.{number_put, line_more, line_ended}
use Rattle.listing.proofs.sizes_text.Goals as goal

pub returns : goal.returns
returns c =
    line_ended
    (line_more count_mark c.of_count.result
    (line_more depth_mark c.of_length-3.result
    (line_more height_mark c.of_length-2.result
    (number_put width_mark c.of_length.result c.of_length.ensures c.put_number-a.ensures)
    c.of_length-2.ensures c.put_number-b.ensures)
    c.of_length-3.ensures c.put_number-c.ensures)
    c.of_count.ensures c.put_number-d.ensures)
    c.put_bytes.ensures
