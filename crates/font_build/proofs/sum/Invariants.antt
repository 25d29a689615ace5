use Rattle.font_build.proofs.BuildLaws.{Summing}
use Rattle.font_build.proofs.sum.Given as goal

abbrev pub invariant-loop-group : goal.invariant-loop-group
invariant-loop-group l = Summing l.initial.index l.index l.before l.group
