-- A mark, the reason's name, the shift and the end of the line, if there is a shift.
use Rattle.std.proofs.Common.{[], refl, sym, arith}
use Rattle.texts.specs.PutLaws.{put_then, written_as, line_more, line_ended}
use Rattle.listing.proofs.TextLaws.{shift_shown, shift_absent}
use Rattle.listing.proofs.shift_text.Goals as goal

pub returns-then-not-is_there : goal.returns-then-not-is_there
returns-then-not-is_there c =
    written_as (shift_absent _ _ (sym c.if-not-is_there.ensures)) (record { size = refl; room = omega arith; bytes = refl })

pub returns : goal.returns
returns c =
    let name = rw c.reason_mark.ensures at c.put_bytes-b.ensures in
    written_as (shift_shown _ _ (sym c.if-not-is_there.ensures))
    (line_ended
    (line_more [] c.of_length.result (put_then c.put_bytes-a.ensures name) c.of_length.ensures c.put_number-c.ensures)
    c.put_bytes.ensures)
