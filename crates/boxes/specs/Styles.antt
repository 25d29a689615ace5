-- The eight styles (document 01, "Styles"): four levels, each also cramped.
-- Assumes nothing.
use Rattle.std.specs.Prelude.{Bool, true, false, List, [], ◌∷◌, ℕ}
use Rattle.std.proofs.Math.Option.{Option}
use Rattle.std.proofs.Math.ListN.{get_elem?}
use Rattle.boxes.specs.declared.styles.Level.{Level}
use Rattle.boxes.specs.declared.styles.Level.TheVariants.{Display, Text, Script, Scriptscript}
use Rattle.boxes.specs.declared.styles.Style.{Style}

abbrev pub plain : Level → Style
plain level = record { level = level; cramped = false }

-- C' of Appendix G: the style with a prime
abbrev pub cramp : Level → Style
cramp level = record { level = level; cramped = true }

-- D, D', T, T', S, S', SS, SS' are numbered from 0
abbrev pub styles : List Style
styles =
    plain Display ∷ cramp Display ∷ plain Text ∷ cramp Text
    ∷ plain Script ∷ cramp Script ∷ plain Scriptscript ∷ cramp Scriptscript ∷ []

-- none above 7
unfoldable pub style_of : ℕ → Option Style
style_of number = get_elem? styles number

abbrev pub font_size_of : Level → ℕ
font_size_of Display = 0
font_size_of Text = 0
font_size_of Script = 1
font_size_of Scriptscript = 2

-- the size in which symbols and parameters are taken
abbrev pub font_size : Style → ℕ
font_size s = font_size_of s.level

-- C > T of Appendix G
abbrev pub is_display : Level → Bool
is_display Display = true
is_display Text = false
is_display Script = false
is_display Scriptscript = false

-- D, D', T, T': where the bracketed spaces of the chart stand
abbrev pub is_large : Level → Bool
is_large Display = true
is_large Text = true
is_large Script = false
is_large Scriptscript = false

abbrev pub script_level : Level → Level
script_level Display = Script
script_level Text = Script
script_level Script = Scriptscript
script_level Scriptscript = Scriptscript

abbrev pub fraction_level : Level → Level
fraction_level Display = Text
fraction_level Text = Script
fraction_level Script = Scriptscript
fraction_level Scriptscript = Scriptscript

-- C↑: the prime stays
abbrev pub superscript_style : Style → Style
superscript_style s = record { level = script_level s.level; cramped = s.cramped }

-- C↓
abbrev pub subscript_style : Style → Style
subscript_style s = cramp (script_level s.level)

-- rule 15a
abbrev pub numerator_style : Style → Style
numerator_style s = record { level = fraction_level s.level; cramped = s.cramped }

abbrev pub denominator_style : Style → Style
denominator_style s = cramp (fraction_level s.level)

-- rule 9
abbrev pub cramped_style : Style → Style
cramped_style s = cramp s.level
