-- What was found, as measuring answers it.
use Rattle.std.proofs.lemmas.Result.{err_from_is_err_and}
use Rattle.layout.proofs.EntryLaws.{measured_is, measured_refused}
use Rattle.layout.proofs.measure.Goals as goal

pub returns-in_err-find-clause-result_value : goal.returns-in_err-find-clause-result_value
returns-in_err-find-clause-result_value c =
    let p = err_from_is_err_and c.from_residual.result c.from_residual.ensures.1 in
    rw (p.1, p.2) (measured_refused _ _ _ _ _ _ c.in_err-find.ensures.found_of)

pub returns-clause-result_value : goal.returns-clause-result_value
returns-clause-result_value c =
    let f = c.in_ok-find.ensures.found_of in
    measured_is _ _ _ _ _ _ _ _ f.0 _ f.1
