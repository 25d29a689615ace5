-- `is_marked` tests both letters.
use mathlib.Core.Path.{refl}
use Rattle.font.specs.Records.{marked}
use Rattle.font_records.proofs.is_marked.Goals as goal

pub returns : goal.returns
unfolding marked
returns c = refl
