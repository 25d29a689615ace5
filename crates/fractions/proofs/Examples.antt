-- The worked examples P10 and P11 of document 01 with the blanks of request 1, on numbers alone: a fraction with a bar and one without. An edit of a rule
-- is refused here, by the row that it changes.
-- Assumes nothing.
use mathlib.Core.Path.{◌≡◌, refl}
use mathlib.Core.List.{List, [], ◌∷◌}
use lib.IntN.{pos}
use Rattle.scaled.specs.Length.{pick, max_ℤ, half}
use Rattle.formula.specs.declared.Bar.TheVariants.{Default, Without}
use Rattle.boxes.specs.declared.styles.Level.TheVariants.{Text}
use Rattle.boxes.specs.Styles.{plain}
use Rattle.boxes.specs.Boxes.{char_size, Arranged, at, origin, no_own, ruled_behind}
use Rattle.boxes.proofs.Bench.{bench, a, minus, arranged}
use Rattle.fractions.specs.Fractions.{fraction_shifts, parted, shifts_without_bar, cleared, shifts_with_bar, fraction}

set : List Arranged
set =
    fraction bench (plain Text) Default (char_size a) (char_size a)  -- P10
    ∷ fraction bench (plain Text) Without (char_size a) (char_size a)  -- P11
    ∷ []

stated : List Arranged
stated =
    arranged 157_786 830 350 (at (pos 78_643) (pos 400)) (at (pos 78_643) (minus 350)) origin
    (ruled_behind record { corner = at (pos 78_643) (pos 230); width = pos 500; thickness = pos 40 })
    ∷ arranged 157_786 880 350 (at (pos 78_643) (pos 450)) (at (pos 78_643) (minus 350)) origin no_own
    ∷ []

examples_hold : set ≡ stated
unfolding bench set stated pick max_ℤ half fraction_shifts parted shifts_without_bar cleared shifts_with_bar fraction
examples_hold = refl
