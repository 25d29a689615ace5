-- `put_number` meets its contract: what is stored is the word turned round (`number_stored`).
-- Assumes nothing.
use mathlib.Core.Path.{ap, ◌∙◌}
use lib.Seq.{sets}
use Rattle.dvi.specs.Stores.{number_stored}
use Rattle.dvi_body.proofs.put_number.Goals as goal

pub returns : goal.returns
returns c =
    let args = c.args in
    c.store.ensures ∙ ap (sets args.out.now args.at) (number_stored args.z.0 c.word_of.ensures c.turned.ensures)
