-- The invariant of the loop is `Passed`: a turn passes the node at the front of the rest, and the bytes are nodes exactly where the
-- loop comes to their end. Assumes nothing.
use mathlib.Core.Path.{refl, sym, ap, ◌∙◌}
use native.Mathlib.Omega.{arith}
use Rattle.std.proofs.lemmas.Bool.Decides.{nat_tests}
use lib.ListN.{length}
use Rattle.dvi.specs.declared.forms.Form.{Form}
use Rattle.dvi.specs.Forms.{bytes_as}
use Rattle.nodes.specs.Lent.{rest_lent}
use Rattle.dvi_calls.proofs.Passing.{within_rest, less_left, passed_none, passed_next, passed_all, passed_stopped}
use Rattle.dvi_calls.proofs.measure.Goals as goal

pub loop-rest-init : goal.loop-rest-init
loop-rest-init g c = passed_none _ _ _

pub returns-in_err-node : goal.returns-in_err-node
returns-in_err-node g c = rw c.from_residual.ensures (passed_stopped c.loop-rest.invariant (grind (arith, nat_tests)) (sym (c.in_err-node.ensures)))

pub slice_bounds-rest-count : goal.slice_bounds-rest-count
slice_bounds-rest-count g c = omega (arith, c.size.ensures, within_rest _ c.loop-rest.rest.now _ (sym (c.in_ok-node.ensures)))

pub slice_bounds-rest-start : goal.slice_bounds-rest-start
slice_bounds-rest-start g c = omega (arith, c.size.ensures, within_rest _ c.loop-rest.rest.now _ (sym (c.in_ok-node.ensures)))

pub loop-rest-preserved : goal.loop-rest-preserved
loop-rest-preserved g c =
    passed_next c.loop-rest.invariant _ (sym (c.in_ok-node.ensures)) c.size.ensures c.size-size.ensures (rest_lent _ c.loop-rest.rest.now)

pub overflow_add-size : goal.overflow_add-size
overflow_add-size g c =
    let turn = passed_next c.loop-rest.invariant _ (sym (c.in_ok-node.ensures)) c.size.ensures c.size-size.ensures refl in
    omega (arith, turn.small)

pub loop-rest-smaller : goal.loop-rest-smaller
loop-rest-smaller g c = less_left _ c.loop-rest.rest.now _ (sym c.in_ok-node.ensures) c.size.ensures

pub returns : goal.returns
returns g c =
    let inv = c.loop-rest.invariant in
    record {
      nodes = inv.nodes;
      reads = passed_all inv (grind (arith, nat_tests));
      size_is = inv.size_is ∙ ap (λ (f : Form). length (bytes_as f inv.nodes)) c.requires;
    }
