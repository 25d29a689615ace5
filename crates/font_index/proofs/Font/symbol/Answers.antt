-- `symbol` reads the record that came back, and there is no symbol without one (`read_none`, `read_some`), in the font of the tables
-- behind the value.
-- Assumes nothing.
use mathlib.Core.Path.{sym, ap, ◌∙◌}
use mathlib.Core.Option.{some}
use Rattle.font.specs.Font.{Tables, font_in}
use Rattle.font.specs.Values.{found_as}
use Rattle.font.proofs.LookupLaws.{read_none, read_some}
use Rattle.font_index.proofs.Font.symbol.Goals as goal

pub returns-in_err-r : goal.returns-in_err-r
returns-in_err-r c =
    let a = c.args in
    let f = c.self.inside in
    ap found_as c.from_residual.ensures
    ∙ sym (read_none f.table.now f.client.now a.size a.family a.code c.self.invariant.indexed.tables c.in_err-r.ensures)
    ∙ ap (λ (t : Tables). (font_in t).symbol a.size a.family a.code) c.self.view_is

pub returns : goal.returns
returns c =
    let a = c.args in
    let f = c.self.inside in
    ap some c.metrics_of.ensures
    ∙ sym (read_some f.table.now f.client.now a.size a.family a.code c.self.invariant.indexed.tables c.in_ok-r.ensures)
    ∙ ap (λ (t : Tables). (font_in t).symbol a.size a.family a.code) c.self.view_is
