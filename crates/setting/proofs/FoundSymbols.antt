-- What is set, and what is searched, is a symbol of the font.
--     SymbolThere, symbol_there     a symbol field's symbol, or the successor that it gives way to
--     signs_there                   the sign of a root and the delimiters of a fence
-- Assumes nothing.
use Rattle.std.specs.Prelude.{◌≡◌, Bool, ℕ}
use Rattle.std.proofs.Math.Path.{refl}
use Rattle.std.proofs.Math.Bool.{true, false}
use Rattle.std.proofs.Math.Option.{Option, none, some}
use Rattle.font.specs.Font.{Font, Metrics}
use Rattle.formula.specs.declared.Base.TheVariants.{Atom, Over, Under, Root, Fence}
use Rattle.formula.specs.declared.Kind.{Kind}
use Rattle.formula.specs.declared.Kind.TheVariants.{Scripted, Fraction}
use Rattle.boxes.specs.declared.styles.Style.{Style}
use Rattle.boxes.specs.Styles.{font_size}
use Rattle.boxes.specs.Boxes.{Shape, size_of}
use Rattle.delimiters.proofs.FoundSigns.{sign_there}
use Rattle.roots.specs.Roots.{sign_extent}
use Rattle.fences.specs.Fences.{fence_extent}
use Rattle.arrange_rules.specs.HoldingLaws.{SignsThere}
use Rattle.setting.specs.Setting.{Symbol, found, successor, enlarged, symbol_in, signs_in}

module _ (F : Font) where
  module _ (size family : ℕ) where
    -- a symbol, if there is one
    abbrev pub SymbolThere : Option Symbol → Type 0
    SymbolThere none = Unit {0}
    SymbolThere (some y) = F.symbol size family y.code ≡ some y.metrics

    found_there : (code : ℕ) (o : Option Metrics) → F.symbol size family code ≡ o → SymbolThere (found code o)
    unfolding found
    found_there code none is = tt
    found_there code (some m) is = is

    next_there : (x : Symbol) (o : Option ℕ) → SymbolThere (some x) → SymbolThere (successor F size family x o)
    unfolding successor
    next_there x none there = there
    next_there x (some next) there = found_there next (F.symbol size family next) refl

    enlarged_there : (enlarge : Bool) (o : Option Symbol) → SymbolThere o → SymbolThere (enlarged F size family enlarge o)
    unfolding enlarged
    enlarged_there enlarge none there = tt
    enlarged_there true (some x) there = next_there x x.metrics.successor there
    enlarged_there false (some x) there = there

    pub symbol_there : (enlarge : Bool) (code : ℕ) → SymbolThere (symbol_in F size enlarge family code)
    unfolding symbol_in
    symbol_there enlarge code =
        enlarged_there enlarge (found code (F.symbol size family code)) (found_there code (F.symbol size family code) refl)

  pub signs_there : (s : Style) (kind : Kind) (x : Shape) → SignsThere F (signs_in F s kind x)
  unfolding signs_in
  signs_there s (Scripted (Atom class limits)) x = record { before = tt; behind = tt }
  signs_there s (Scripted Over) x = record { before = tt; behind = tt }
  signs_there s (Scripted Under) x = record { before = tt; behind = tt }
  signs_there s (Scripted (Root d)) x =
      record { before = sign_there F (font_size s) d (sign_extent F.parameter s (size_of x)); behind = tt }
  signs_there s (Scripted (Fence left right)) x =
      let needed = fence_extent F.parameter s (size_of x) in
      record { before = sign_there F (font_size s) left needed; behind = sign_there F (font_size s) right needed }
  signs_there s (Fraction bar) x = record { before = tt; behind = tt }
