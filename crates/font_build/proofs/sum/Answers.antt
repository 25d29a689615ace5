-- `sum` goes through the counts with their sum so far (`Summing`). Assumes nothing.
use native.Mathlib.Omega.{arith}
use Rattle.font_build.proofs.BuildLaws.{summing_none, summing_more, total_small}
use Rattle.font_build.proofs.sum.Goals as goal

pub loop-group-init : goal.loop-group-init
loop-group-init c = summing_none c.args.index.now

pub overflow_add-before : goal.overflow_add-before
overflow_add-before c =
    let l = c.loop-group in
    omega (arith, total_small c.args.index.now l.index c.requires.0 l.before l.group c.loop-group-test.true l.invariant, c.requires.1)

pub loop-group-preserved : goal.loop-group-preserved
loop-group-preserved c =
    let l = c.loop-group in
    summing_more c.args.index.now l.index c.requires.0 l.before l.group c.loop-group-test.true l.invariant
