-- `formula_size` meets its contract: what is written of a derivation has the size of its formula, whatever room there is. Assumes nothing.
use Rattle.eqn_grammar.proofs.ParsingLaws.{parse_sound}
use Rattle.eqn_meaning.specs.Meaning.{row_items}
use Rattle.eqn_calls.proofs.SizeLaws.{made_sized}
use Rattle.eqn_calls.proofs.formula_size.Goals as goal

pub returns : goal.returns
returns c =
    λ d l.
    made_sized (row_items d.ns d.row) _ _ c.put_row.result
    (c.put_row.ensures.row_made d.ns l d.row (parse_sound _ _ d.parsed))
