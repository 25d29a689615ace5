-- `clear` writes 0 over the words (`cleared`). Assumes nothing.
use Rattle.font_build.proofs.BuildLaws.{cleared}
use Rattle.font_build.proofs.clear.Goals as goal

pub returns : goal.returns
returns c = cleared c.args.index.now c.fill.new.self c.requires (c.fill.ensures.after (λ y h. h))
