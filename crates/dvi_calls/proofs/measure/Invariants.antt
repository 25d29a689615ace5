use lib.ListN.{length}
use Rattle.dvi_calls.proofs.Passing.{Passed}
use Rattle.dvi_calls.proofs.measure.Given as goal

abbrev pub invariant-loop-rest : goal.invariant-loop-rest
invariant-loop-rest g l = Passed g.From.NodeForm.form g.To.NodeForm.form l.s l.rest l.size

abbrev pub decreases-loop-rest : goal.decreases-loop-rest
decreases-loop-rest g l = length l.rest
