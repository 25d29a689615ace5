-- What the search takes is a symbol of the font.
--     There, IfThere     a sign is a symbol of the font, with its metrics; proofs/FoundSigns.antt shows it of the one that is taken
-- Assumes nothing.
use Rattle.std.specs.Prelude.{◌≡◌}
use Rattle.std.proofs.Math.Option.{Option, none, some}
use Rattle.font.specs.Font.{Font}
use Rattle.delimiters.specs.Delimiters.{Sign}

module _ (F : Font) where
  abbrev pub There : Sign → Type 0
  There s = F.symbol s.size s.family s.code ≡ some s.metrics

  abbrev pub IfThere : Option Sign → Type 0
  IfThere none = Unit {0}
  IfThere (some s) = There s
