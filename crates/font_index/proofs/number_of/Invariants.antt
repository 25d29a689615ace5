use Rattle.font_index.proofs.ReadingLaws.{Counting}
use Rattle.font_index.proofs.number_of.Given as goal

abbrev pub invariant-loop-word : goal.invariant-loop-word
invariant-loop-word l = Counting l.index l.key.size l.key.family l.last l.number l.word
