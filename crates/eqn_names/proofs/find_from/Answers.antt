-- `find_from` meets its contract: the closure compares the names (`search_named`).
-- Assumes nothing.
use mathlib.Core.Path.{◌≡◌, sym, ◌∙◌}
use borrow.Author.Rules.{rules}
use Rattle.eqn_tokens.specs.Bytes.{same}
use Rattle.eqn_names.proofs.SearchLaws.{search_named}
use Rattle.eqn_names.proofs.find_from.Goals as goal

pub returns-in_err-found : goal.returns-in_err-found
returns-in_err-found c =
    let word = c.args.word.now in
    rw c.from_residual.ensures
    (λ ns r.
    search_named _ word (λ w symbol b p. let tests : b ≡ same p.0.now word = search rules in rw p.1 at tests) c.in_err-found.ensures r.0 r.1 ∙ sym r.2)

pub returns : goal.returns
returns c =
    let word = c.args.word.now in
    λ ns r.
    search_named _ word (λ w symbol b p. let tests : b ≡ same p.0.now word = search rules in rw p.1 at tests) c.in_ok-found.ensures r.0 r.1 ∙ sym r.2
