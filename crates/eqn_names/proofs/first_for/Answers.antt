-- `first_for` meets its contract: the closure tests the symbol (`search_first`).
-- Assumes nothing.
use borrow.Author.Rules.{rules}
use Rattle.eqn_names.specs.Names.{asked_as}
use Rattle.eqn_names.proofs.SearchLaws.{search_first}
use Rattle.eqn_names.proofs.first_for.Goals as goal

pub returns-in_err-found : goal.returns-in_err-found
returns-in_err-found c =
    let a = c.args in
    rw c.from_residual.ensures
    (λ ns r. search_first _ a.family a.code (asked_as a.class) (λ w symbol b p. search rules) c.in_err-found.ensures ns r)

pub returns : goal.returns
returns c =
    let a = c.args in
    λ ns r. search_first _ a.family a.code (asked_as a.class) (λ w symbol b p. search rules) c.in_ok-found.ensures ns r
