-- `is_extent` makes the tests of `extent_tests`.
-- Assumes nothing.
use Rattle.dvi_nodes.proofs.ItemLaws.{extent_tests}
use Rattle.dvi_nodes.proofs.is_extent.Goals as goal

pub returns : goal.returns
returns c = rw (c.within.ensures, c.less.ensures.is) (extent_tests c.args.z.0)
