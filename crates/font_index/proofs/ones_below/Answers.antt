-- `ones_below` counts what a mask of the bits below leaves (`masked_ones`). Assumes nothing.
use Rattle.font_index.proofs.BitLaws.{masked_ones, ones_few}
use borrow.Author.Rules.{rules}
use Rattle.font_index.proofs.ones_below.Goals as goal

pub returns : goal.returns
returns c = rw c.from.ensures (masked_ones c.args.w c.args.bit c.requires, ones_few c.args.w _ (search rules))
