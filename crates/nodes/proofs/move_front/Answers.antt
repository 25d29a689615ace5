-- `move_front` meets its contract: a move by nothing leaves the bytes as they are (`unmoved_front`).
-- Assumes nothing.
use mathlib.Core.Path.{sym, ◌∙◌}
use mathlib.Core.Bool.{and-eq-true_iff}
use native.Mathlib.Omega.{arith}
use lib.Dec.{eqb}
use borrow.Author.Tests.{eqb-true}
use Rattle.nodes.proofs.Unmoved.{unmoved_front}
use Rattle.nodes.proofs.move_front.Goals as goal

pub returns-then-right-up : goal.returns-then-right-up
returns-then-right-up c =
    let args = c.args in
    let both = (and-eq-true_iff (eqb c.word_of-right.result 0) (eqb c.word_of-up.result 0)).0 c.if-right-up.true in
    let no-right = sym c.word_of-right.ensures ∙ eqb-true _ _ both.0 in
    let no-up = sym c.word_of-up.ensures ∙ eqb-true _ _ both.1 in
    sym (unmoved_front args.dx.0 args.dy.0 args.count args.buf.now no-right no-up (omega arith) c.type_inv.buf)
