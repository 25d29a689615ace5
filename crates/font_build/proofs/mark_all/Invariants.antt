use Rattle.font.specs.Records.{client_records}
use Rattle.font_build.proofs.BuildLaws.{MarkedFrom}
use Rattle.font_build.proofs.mark_all.Given as goal

abbrev pub invariant-loop-i : goal.invariant-loop-i
invariant-loop-i l = MarkedFrom l.initial.index l.index (client_records l.s) l.i
