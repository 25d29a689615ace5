-- `mark` meets its contract: its arms are the tests of the definition.
-- Assumes nothing.
use Rattle.std.proofs.Common.{arith, ne_eqb}
use Rattle.eqn_tokens.specs.Bytes.{opening_brace, closing_brace}
use Rattle.eqn_tokens.specs.Tokens.{mark_of}
use Rattle.eqn_tokens.proofs.tokens.mark.Goals as goal

pub returns-in-123 : goal.returns-in-123
unfolding mark_of
returns-in-123 c = λ w ts. rw c.in-123.is

pub returns-in-125 : goal.returns-in-125
unfolding mark_of
returns-in-125 c = λ w ts. rw c.in-125.is

pub returns-in_default : goal.returns-in_default
unfolding mark_of
returns-in_default c =
    let b = c.args.b in
    λ w ts. rw (ne_eqb b opening_brace (λ e. omega (arith, e)), ne_eqb b closing_brace (λ e. omega (arith, e)))
