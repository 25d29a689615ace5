-- `symbol_field` meets its contract, by the laws of `FieldBoxLaws`: the symbol that was found is the definition's.
-- Assumes nothing.
use mathlib.Core.Path.{◌≡◌, sym}
use mathlib.Core.Option.{none, some}
use Rattle.font.specs.Font.{font_in}
use Rattle.boxes.specs.Styles.{font_size}
use Rattle.setting.specs.Setting.{symbol_in, is_enlarged}
use Rattle.walk_symbols.specs.Values.{symbol_as}
use Rattle.walk_fields.specs.FieldBoxLaws.{symbol_whole, symbol_missing}
use Rattle.walk_fields.proofs.fields.symbol_field.Goals as goal

pub returns-in-Some : goal.returns-in-Some
returns-in-Some c =
    let a = c.args in
    let F = font_in a.font.now in
    let size = c.font_size-size.ensures.0 in
    let large = c.is_enlarged.ensures in
    let symbol = c.in-Some.symbol in
    let found : symbol_in F (font_size a.style) (is_enlarged a.manner) a.family a.code ≡ some (symbol_as symbol) =
    rw (← size, ← large) (sym c.in-Some.ensures) in
    symbol_whole F a.style a.manner a.at a.end a.buf.now a.family a.code c.requires symbol _ _ found
    c.point.ensures (rw (← size) c.put_glyph.ensures)

pub returns-in-None : goal.returns-in-None
returns-in-None c =
    let a = c.args in
    let F = font_in a.font.now in
    let size = c.font_size-size.ensures.0 in
    let large = c.is_enlarged.ensures in
    let lacks : symbol_in F (font_size a.style) (is_enlarged a.manner) a.family a.code ≡ none =
    rw (← size, ← large) (sym c.in-None.ensures) in
    symbol_missing F a.style a.manner a.at a.end a.buf.now a.family a.code c.requires lacks
