-- What follows from what is found.
--     given_list      a formula that reads is given to the walk as it asks
--     found_is        the result of a formula that is accepted
-- Assumes nothing.
use Rattle.std.specs.Prelude.{◌≡◌, List, ℕ}
use Rattle.std.proofs.Common.{◌∙◌, arith}
use Rattle.font.specs.Font.{font_with}
use Rattle.formula.specs.Places.{tree_of}
use Rattle.boxes.specs.declared.styles.Style.{Style}
use Rattle.boxes.specs.declared.Size.{Size}
use Rattle.setting.specs.Setting.{no_sides, set_list}
use Rattle.answers.specs.Lent.{Lent}
use Rattle.answers.specs.Answers.{boxed, result_of}
use Rattle.walk_fields.specs.Lists.{ListGiven}
use Rattle.layout_find.specs.Found.{Reads, Boxes}

pub given_list : {style : ℕ} {table client : List ℕ} {lent : Lent} {formula i j : List ℕ} {s : Style} →
    Reads style table client lent formula i j s → ListGiven formula
given_list h = record { readable = h.readable; short = omega (arith, h.short) }

pub found_is : {style : ℕ} {table client : List ℕ} {lent : Lent} {formula i j : List ℕ} {s : Style} {z : Size} {n : ℕ} →
    Reads style table client lent formula i j s → Boxes s table client formula z n →
    result_of style table client lent formula ≡ boxed (set_list (font_with table client) no_sides s (tree_of formula))
found_is g h = g.result_is ∙ h.result_is
