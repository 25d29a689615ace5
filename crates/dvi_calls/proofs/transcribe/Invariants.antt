use lib.ListN.{length}
use Rattle.dvi_calls.proofs.Passing.{Copied}
use Rattle.dvi_calls.proofs.transcribe.Given as goal

abbrev pub invariant-loop-rest : goal.invariant-loop-rest
invariant-loop-rest g l = Copied g.From.NodeForm.form g.To.NodeForm.form l.s l.initial.out l.out l.rest l.end

abbrev pub decreases-loop-rest : goal.decreases-loop-rest
decreases-loop-rest g l = length l.rest
