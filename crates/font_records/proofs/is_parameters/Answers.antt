-- `is_parameters` tests the mark and the words.
use mathlib.Core.Path.{ap₂}
use mathlib.Core.Bool.{Bool, ◌&&◌}
use Rattle.font.specs.Records.{good_parameters, parameter_words}
use Rattle.font_records.proofs.is_parameters.Goals as goal

pub returns : goal.returns
unfolding good_parameters parameter_words
returns c = ap₂ (λ (m w : Bool). m && w) c.is_marked.ensures c.are_small.ensures
