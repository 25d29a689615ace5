-- An acceptance has the number 0, and no refusal has.
use Rattle.layout_answers.specs.RefusalLaws.{refuses}
use Rattle.layout_answers.specs.Values.{refusal_as}
use Rattle.listing.specs.Texts.{answer_text}
use Rattle.texts.specs.PutLaws.{written_as}
use Rattle.listing.proofs.TextLaws.{refused_line}
use Rattle.listing.proofs.answer_text.Goals as goal

pub returns-in-Ok : goal.returns-in-Ok
unfolding answer_text
returns-in-Ok c = rw c.in-Ok.is c.sizes_text.ensures

pub returns-in-Err : goal.returns-in-Err
returns-in-Err c =
    let r = c.in-Err.refusal in
    let text = rw (c.number.ensures, c.place.ensures) at c.refusal_text.ensures in
    rw c.in-Err.is (written_as (refused_line (refusal_as r) (refuses r)) text)
