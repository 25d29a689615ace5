-- The worked examples P7 to P9 of document 01, on numbers alone: the scripts of a symbol. An edit of a rule is refused here, by
-- the row that it changes.
-- Assumes nothing.
use mathlib.Core.Bool.{true, false}
use mathlib.Core.Path.{◌≡◌, refl}
use mathlib.Core.List.{List, [], ◌∷◌}
use mathlib.Core.Option.{none, some}
use lib.IntN.{pos}
use Rattle.scaled.specs.Length.{pick, max_ℤ}
use Rattle.boxes.specs.declared.styles.Level.TheVariants.{Text}
use Rattle.boxes.specs.Styles.{plain, cramp}
use Rattle.boxes.specs.Boxes.{Size, char_size, Arranged, at, origin, no_own}
use Rattle.boxes.proofs.Bench.{bench, a, f, minus, arranged}
use Rattle.nucleus.specs.Nucleus.{symbol_nucleus}
use Rattle.scripts.specs.Scripts.{drops, greatest, least_up, superscript_candidates, pair_candidates, gap_down, ψ_of, lifted, spread, pair_shifts, reach, scripted}

abbrev script : Size
script = char_size a

set : List Arranged
set =
    scripted bench (plain Text) (symbol_nucleus a false) (some script) none  -- P7, twice
    ∷ scripted bench (cramp Text) (symbol_nucleus a false) (some script) none
    ∷ scripted bench (plain Text) (symbol_nucleus f true) (some script) (some script)  -- P8
    ∷ scripted bench (cramp Text) (symbol_nucleus f true) (some script) (some script)  -- P9
    ∷ []

stated : List Arranged
stated =
    arranged 33_768 800 0 origin (at (pos 500) (pos 370)) origin no_own
    ∷ arranged 33_768 720 0 origin (at (pos 500) (pos 290)) origin no_own
    ∷ arranged 33_868 800 250 origin (at (pos 600) (pos 370)) (at (pos 490) (minus 250)) no_own
    ∷ arranged 33_868 774 246 origin (at (pos 600) (pos 344)) (at (pos 490) (minus 246)) no_own
    ∷ []

examples_hold : set ≡ stated
unfolding
    bench set stated pick max_ℤ drops greatest least_up superscript_candidates pair_candidates gap_down ψ_of lifted spread pair_shifts reach scripted
examples_hold = refl
