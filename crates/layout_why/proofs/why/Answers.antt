-- What was found, as asking why answers it.
-- Assumes nothing.
use mathlib.Core.Path.{◌∙◌}
use Rattle.std.proofs.lemmas.Result.{err_from_is_err_and}
use Rattle.layout_find.specs.FoundLaws.{given_list}
use Rattle.layout_why.proofs.WhyLaws.{picked_is, why_is, why_refused}
use Rattle.layout_why.proofs.why.Goals as goal

pub returns-in_err-found-clause-result_value : goal.returns-in_err-found-clause-result_value
returns-in_err-found-clause-result_value c =
    let p = err_from_is_err_and c.from_residual.result c.from_residual.ensures.1 in
    rw (p.1, p.2) (why_refused _ _ _ _ _ _ c.in_err-found.ensures.found_of _)

pub new-font-requires : goal.new-font-requires
new-font-requires c = c.in_ok-found.ensures.found_of.0.indexed

pub why_at-requires : goal.why_at-requires
why_at-requires c = given_list c.in_ok-found.ensures.found_of.0

pub returns-clause-result_value : goal.returns-clause-result_value
returns-clause-result_value c =
    let f = c.in_ok-found.ensures.found_of in
    let tells = rw c.new-font.ensures at c.why_at.ensures in
    rw c.ok_or.ensures.value (picked_is c.why_at.result ∙ why_is _ _ _ _ _ _ _ _ f.0 _ _ f.1 _ c.why_at.result tells)
