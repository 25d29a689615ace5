-- What the walk finds without room, by `whole_examined`, `large_examined` and `missing_examined`.
use mathlib.Core.Path.{sym, ◌∙◌}
use Rattle.std.proofs.lemmas.Result.{err_from_is_err_and}
use Rattle.layout_find.proofs.FindLaws.{whole_examined, large_examined, missing_examined}
use Rattle.layout_find.proofs.examine.Goals as goal

pub returns-in_err-line : goal.returns-in_err-line
returns-in_err-line c =
    let p = err_from_is_err_and c.from_residual.result c.from_residual.ensures.1 in
    rw (p.1, p.2) (missing_examined _ _ _ _ _ c.in_err-line.ensures.0)

pub returns-then-not-list_fits : goal.returns-then-not-list_fits
returns-then-not-list_fits c = large_examined _ _ _ _ _ _ c.in_ok-line.ensures.0 (sym c.if-not-list_fits.ensures)

pub returns : goal.returns
returns c = whole_examined _ _ _ _ _ _ c.in_ok-line.ensures.0 (sym c.if-not-list_fits.ensures)
