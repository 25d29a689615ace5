-- A good table is long enough for its parameters, and those taken out of it are those of the font.
-- Assumes nothing.
use Rattle.std.proofs.Common.{arith}
use Rattle.font.specs.Font.{font_with}
use Rattle.font.specs.FontLaws.{whole_records}
use Rattle.font.specs.ValueLaws.{taken_out}
use Rattle.font_index.proofs.Font.new.Goals as goal

pub parameters-requires : goal.parameters-requires
parameters-requires c = omega (arith, whole_records c.args.table.now c.requires.tables.ours)

pub invariant_of-result : goal.invariant_of-result
unfolding font_with
invariant_of-result c = record { indexed = c.requires; parameters_are = taken_out c.args.table.now c.parameters.result c.parameters.ensures }
