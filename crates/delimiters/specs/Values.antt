-- What the values of the code stand for in the definitions.
-- Assumes nothing.
use Rattle.std.specs.Prelude.{Option, Some, None}
use Rattle.std.proofs.Math.Option.{none, some}
use Rattle.std.proofs.Math.Option.{Option as OptionOf}
use Rattle.font.specs.Values.{metrics_as}
use Rattle.delimiters.specs.declared.Sign as declared
use Rattle.delimiters.specs.declared.Search.{Search}
use Rattle.delimiters.specs.declared.Search.TheVariants.{Nothing, Short, Enough}
use Rattle.delimiters.specs.declared.Signs.{Signs}
use Rattle.delimiters.specs.Delimiters.{Sign, Signs as SignsOf}
use Rattle.delimiters.specs.Looking.{Looked, nothing, short, enough}

abbrev pub sign_as : declared.Sign → Sign
sign_as s = record { size = s.size; family = s.family; code = s.code; metrics = metrics_as s.metrics }

abbrev pub chosen_as : Option declared.Sign → OptionOf Sign
chosen_as None = none
chosen_as (Some s) = some (sign_as s)

abbrev pub signs_as : Signs → SignsOf
signs_as s = record { before = chosen_as s.before; behind = chosen_as s.behind }

abbrev pub search_as : Search → Looked
search_as Nothing = nothing
search_as (Short t) = short (sign_as t)
search_as (Enough s) = enough (sign_as s)
