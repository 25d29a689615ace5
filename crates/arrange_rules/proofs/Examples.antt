-- A worked example of document 01 for each way that an item goes, from the shapes of its fields: scripts beside a symbol (P8), a
-- fraction (P10, whose numbers stand with its rules), a limit (P12); then the root of a, with the bench's sum for its sign and a
-- subscript, and with no sign; then a fence around a, with the sum on its left alone, and on its right alone with a subscript.
-- An edit of a rule is refused here, by the row that it changes.
-- Assumes nothing.
use mathlib.Core.Path.{◌≡◌, refl}
use mathlib.Core.List.{List, [], ◌∷◌}
use mathlib.Core.Option.{Option, none, some}
use Prim.Native.Nat.{ℕ}
use lib.IntN.{pos}
use Rattle.scaled.specs.Length.{pick, max_ℤ, half}
use Rattle.formula.specs.declared.Class.TheVariants.{Ord, Op}
use Rattle.formula.specs.declared.Limits.TheVariants.{DisplayOnly}
use Rattle.formula.specs.declared.Bar.TheVariants.{Default}
use Rattle.formula.specs.declared.Delimiter.{Delimiter}
use Rattle.formula.specs.declared.Base.TheVariants.{Atom, Root, Fence}
use Rattle.formula.specs.declared.Kind.TheVariants.{Scripted, Fraction}
use Rattle.boxes.specs.declared.styles.Level.TheVariants.{Display, Text}
use Rattle.boxes.specs.Styles.{plain}
use Rattle.formula.specs.Heads.{delimiter}
use Rattle.boxes.specs.Boxes.{nothing, char, box, char_size, Rule, OwnNode, ruled, signed, Arranged, at, origin, no_own}
use Rattle.boxes.proofs.Bench.{bench, metrics, a, f, large_sum, minus, arranged}
use Rattle.delimiters.specs.Delimiters.{Sign, Signs, no_signs}
use Rattle.roots.specs.Roots.{root}
use Rattle.fences.specs.Fences.{fence_of}
use Rattle.limits.specs.Limits.{limited}
use Rattle.scripts.specs.Scripts.{drops, greatest, least_up, superscript_candidates, subscript_candidates, pair_candidates, gap_down, ψ_of, lifted, spread, pair_shifts, reach, scripted}
use Rattle.fractions.specs.Fractions.{fraction}
use Rattle.arrange_rules.specs.Arrange.{nucleus_of, arrange}

-- the sum, which the table has in the family 3 with the code 80, in text size
abbrev sum : Sign
sum = record { size = 0; family = 3; code = 80; metrics = metrics 1_000 0 1_000 0 }

abbrev signs : Option Sign → Option Sign → Signs
signs before behind = record { before = before; behind = behind }

abbrev sums : Delimiter
sums = delimiter 3 80 3 80

-- a rule of no thickness, 500 wide
abbrev rule_at : ℕ → ℕ → Rule
rule_at across up = record { corner = at (pos across) (pos up); width = pos 500; thickness = pos 0 }

-- the sum's node
abbrev sum_at : ℕ → ℕ → OwnNode
sum_at across up = signed record { place = at (pos across) (pos up); size = 0; family = 3; code = 80 }

set : List Arranged
set =
    arrange bench (plain Text) (Scripted (Atom Ord DisplayOnly)) no_signs (char f) (char a) (char a)
    ∷ arrange bench (plain Text) (Fraction Default) no_signs (char a) (char a) nothing
    ∷ arrange bench (plain Display) (Scripted (Atom Op DisplayOnly)) no_signs (char large_sum) nothing (char a)
    ∷ arrange bench (plain Text) (Scripted (Root sums)) (signs (some sum) none) (char a) nothing (char a)
    ∷ arrange bench (plain Text) (Scripted (Root sums)) no_signs (char a) nothing nothing
    ∷ arrange bench (plain Text) (Scripted (Fence sums sums)) (signs (some sum) none) (box (char_size a)) nothing nothing
    ∷ arrange bench (plain Text) (Scripted (Fence sums sums)) (signs none (some sum)) (box (char_size a)) nothing (char a)
    ∷ []

stated : List Arranged
stated =
    arranged 33_868 800 250 origin (at (pos 600) (pos 370)) (at (pos 490) (minus 250)) no_own
    ∷ fraction bench (plain Text) Default (char_size a) (char_size a)
    ∷ arranged 1_400 950 1_150 (at (pos 0) (pos 950)) origin (at (pos 450) (minus 1_050)) no_own
    ∷ arranged 34_768 740 310 (at (pos 1_000) (pos 0)) origin (at (pos 1_500) (minus 310))
    (record { before = sum_at 0 740 ∷ ruled (rule_at 1_000 740) ∷ []; behind = [] })
    ∷ arranged 79_143 480 0 (at (pos 78_643) (pos 0)) origin origin (record { before = ruled (rule_at 78_643 480) ∷ []; behind = [] })
    ∷ arranged 80_143 750 250 (at (pos 1_000) (pos 0)) origin origin (record { before = sum_at 0 750 ∷ []; behind = [] })
    ∷ arranged 113_411 750 300 (at (pos 78_643) (pos 0)) origin (at (pos 80_143) (minus 300)) (record { before = []; behind = sum_at 79_143 750 ∷ [] })
    ∷ []

examples_hold : set ≡ stated
unfolding
    bench set stated pick max_ℤ half limited drops greatest least_up superscript_candidates subscript_candidates pair_candidates gap_down ψ_of lifted spread pair_shifts reach scripted root fence_of nucleus_of arrange
examples_hold = refl
