-- `mark` sets a bit and counts, as `marked_with` says (`marked_so`). Assumes nothing.
use Rattle.font_build.proofs.BuildLaws.{marked_so}
use Rattle.font_build.proofs.mark.Goals as goal

pub returns : goal.returns
returns c =
    let k = c.args.key in
    marked_so c.args.index.now k.size k.family k.code c.group_at-group.result c.group_at-group.ensures
