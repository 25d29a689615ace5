-- What the values of a search for a symbol stand for in the definition.
-- Assumes nothing.
use Rattle.std.specs.Prelude.{Option, Some, None}
use Rattle.std.proofs.Math.Option.{none, some}
use Rattle.std.proofs.Math.Option.{Option as OptionOf}
use Rattle.font.specs.Values.{metrics_as}
use Rattle.setting.specs.Setting.{Symbol}
use Rattle.walk_symbols.specs.declared.symbols.Symbol as symbols

abbrev pub symbol_as : symbols.Symbol → Symbol
symbol_as s = record { code = s.code; metrics = metrics_as s.metrics }

abbrev pub symbol_search_as : Option symbols.Symbol → OptionOf Symbol
symbol_search_as None = none
symbol_search_as (Some s) = some (symbol_as s)
