-- Demand 3 at work once more, in the bench table and the style T.
--     another_list      part 4: with the list `a KN -500 a`, as large as `a`, for the superscript a of `a^{a} a`, the a before it, the
--                       distance and the a behind it stay (`around-frame`)
--     deep_by_place     a list in a list in a list: the numerator, in the style SS, of a fraction in the superscript of an underlined a
--     part_by_place     the denominator of a fraction, in S'
--     limit_by_place    the limit below an operator, its third field, in S'
-- Each list field is named by the place of its kind byte, which its path gives (`listed_at`).
-- Assumes nothing.
use Rattle.std.specs.Prelude.{◌≡◌, refl, List, [], ◌∷◌, ◌++◌, ℕ, pos, neg_ℤ}
use Rattle.formula.specs.declared.Class.TheVariants.{Op}
use Rattle.formula.specs.declared.Limits.TheVariants.{Always}
use Rattle.formula.specs.declared.Bar.TheVariants.{Default}
use Rattle.formula.specs.declared.Base.TheVariants.{Atom, Under}
use Rattle.formula.specs.declared.Kind.TheVariants.{Scripted, Fraction}
use Rattle.formula.specs.Tree.{Items, nil, cons, noad, kern, empty, symbol}
use Rattle.boxes.specs.declared.styles.Level.TheVariants.{Text, Script, Scriptscript}
use Rattle.boxes.specs.Styles.{plain, cramp}
use Rattle.boxes.specs.Boxes.{Size}
use Rattle.nodes.specs.Nodes.{glyph, rule}
use Rattle.setting.specs.Setting.{no_sides}
use Rattle.setting.specs.Paths.{in_first, in_second, in_third, among, Step, Path, whole, into, fill}
use Rattle.answers.specs.Answers.{measured}
use Rattle.promises.proofs.BenchTable.{just_enough, bench_table}
use Rattle.promises.proofs.Definitions.{definitions}
use Rattle.promises.specs.Accepting.{Accepted}
use Rattle.promises.proofs.EveryField.{listed_at}
use Rattle.promises.proofs.Demand3.{around, run, StandsIn, demand_3, ListFieldAsAlone}
use Rattle.promises.proofs.FieldExample.{T, atom_bytes, ord, a, a_alone, by_place}

-- the size of the list a alone, in a style
abbrev size_in : ℕ → Size
size_in style = (measured style bench_table [] just_enough atom_bytes).size

-- ---- another list of the same size

-- a with a superscript of so many bytes, and an a behind it
abbrev raised_before : ℕ → List ℕ → List ℕ
raised_before n field = 65 ∷ 84 ∷ 0 ∷ 0 ∷ 1 ∷ 1 ∷ 97 ∷ 2 ∷ n ∷ 0 ∷ (field ++ (0 ∷ atom_bytes))

-- a, back by as much as it is wide, and a again
abbrev twice_bytes : List ℕ
twice_bytes = atom_bytes ++ (75 ∷ 78 ∷ 12 ∷ 254 ∷ 255 ∷ 255 ∷ atom_bytes)

abbrev twice : Items
twice = cons (noad ord a empty empty) (cons (kern (neg_ℤ (pos 500))) a_alone)

abbrev superscript : Step
superscript = record { spot = among nil a_alone; kind = ord; arm = in_second a empty }

once_accepted : Accepted T bench_table [] just_enough (raised_before 9 atom_bytes) (plain Text) (fill (plain Text) (into whole superscript) a_alone)
unfolding definitions bench_table
once_accepted = record { style_is = refl; reads = refl; room = 54; is_accepted = refl }

twice_accepted : Accepted T bench_table [] just_enough (raised_before 24 twice_bytes) (plain Text) (fill (plain Text) (into whole superscript) twice)
unfolding definitions bench_table
twice_accepted = record { style_is = refl; reads = refl; room = 72; is_accepted = refl }

pub another_list : StandsIn T bench_table [] just_enough (raised_before 24 twice_bytes) (plain Text) whole superscript twice (size_in 4)
unfolding definitions bench_table
another_list =
    (demand_3 T bench_table [] just_enough (raised_before 9 atom_bytes) (plain Text) whole superscript a_alone once_accepted
    ).same_outside (raised_before 24 twice_bytes) twice twice_accepted refl

pub around-frame :
    around bench_table [] (plain Text) whole superscript (size_in 4)
    ≡ record {
      before = glyph (pos 0) (pos 0) 0 1 97 ∷ [];
      distance = record { across = pos 500; up = pos 370 };
      after = glyph (pos 33_768) (pos 0) 0 1 97 ∷ [];
    }
unfolding definitions bench_table
around-frame = refl

-- the nodes of that list, of which the second stands where the first does
pub another_run : run bench_table [] (plain Text) whole superscript twice ≡ glyph (pos 0) (pos 0) 1 1 97 ∷ glyph (pos 0) (pos 0) 1 1 97 ∷ []
unfolding definitions bench_table
another_run = refl

-- ---- in a list in a list in a list

-- a fraction with the list a above
abbrev fraction_bytes : List ℕ
fraction_bytes = 70 ∷ 82 ∷ 0 ∷ 2 ∷ 9 ∷ 0 ∷ (atom_bytes ++ (1 ∷ 1 ∷ 97 ∷ []))

-- an underlined a with that fraction for its superscript
abbrev deep_bytes : List ℕ
deep_bytes = 85 ∷ 78 ∷ 2 ∷ 29 ∷ 0 ∷ 65 ∷ 84 ∷ 0 ∷ 0 ∷ 1 ∷ 1 ∷ 97 ∷ 2 ∷ 18 ∷ 0 ∷ (fraction_bytes ++ (0 ∷ 0 ∷ 0 ∷ []))

abbrev in_underlined : Step
in_underlined = record { spot = among nil nil; kind = Scripted Under; arm = in_first empty empty }

abbrev in_superscript : Step
in_superscript = record { spot = among nil nil; kind = ord; arm = in_second a empty }

abbrev in_numerator : Step
in_numerator = record { spot = among nil nil; kind = Fraction Default; arm = in_first a empty }

abbrev outer : Path
outer = into (into whole in_underlined) in_superscript

deep_accepted : Accepted T bench_table [] just_enough deep_bytes (plain Text) (fill (plain Text) (into outer in_numerator) a_alone)
unfolding definitions bench_table
deep_accepted = record { style_is = refl; reads = refl; room = 90; is_accepted = refl }

pub deep-frame :
    around bench_table [] (plain Text) outer in_numerator (size_in 6)
    ≡ record {
      before = glyph (pos 0) (pos 0) 0 1 97 ∷ [];
      distance = record { across = pos 79_143; up = pos 857 };
      after =
          rule (pos 79_143) (pos 687) (pos 500) (pos 40)
          ∷ glyph (pos 79_143) (pos 107) 2 1 97
          ∷ rule (pos 0) (neg_ℤ (pos 160)) (pos 191_054) (pos 40)
          ∷ [];
    }
unfolding definitions bench_table
deep-frame = refl

pub deep_by_place : ListFieldAsAlone T bench_table [] just_enough deep_bytes (plain Text) 18 (plain Scriptscript) no_sides atom_bytes
unfolding definitions
deep_by_place = by_place deep_bytes deep_accepted (listed_at (plain Text) deep_bytes outer in_numerator a_alone 18 atom_bytes deep_accepted.reads refl refl)

-- ---- in a fraction

-- with the list a below
abbrev over_bytes : List ℕ
over_bytes = 70 ∷ 82 ∷ 0 ∷ 1 ∷ 1 ∷ 97 ∷ 2 ∷ 9 ∷ 0 ∷ atom_bytes

abbrev denominator : Step
denominator = record { spot = among nil nil; kind = Fraction Default; arm = in_second a empty }

part_accepted : Accepted T bench_table [] just_enough over_bytes (plain Text) (fill (plain Text) (into whole denominator) a_alone)
unfolding definitions bench_table
part_accepted = record { style_is = refl; reads = refl; room = 54; is_accepted = refl }

pub part-frame :
    around bench_table [] (plain Text) whole denominator (size_in 5)
    ≡ record {
      before = glyph (pos 78_643) (pos 400) 1 1 97 ∷ rule (pos 78_643) (pos 230) (pos 500) (pos 40) ∷ [];
      distance = record { across = pos 78_643; up = neg_ℤ (pos 350) };
      after = [];
    }
unfolding definitions bench_table
part-frame = refl

pub part_by_place : ListFieldAsAlone T bench_table [] just_enough over_bytes (plain Text) 6 (cramp Script) no_sides atom_bytes
unfolding definitions
part_by_place = by_place over_bytes part_accepted (listed_at (plain Text) over_bytes whole denominator a_alone 6 atom_bytes part_accepted.reads refl refl)

-- ---- below an operator

-- the sum, with limits in every style
abbrev limit_bytes : List ℕ
limit_bytes = 65 ∷ 84 ∷ 1 ∷ 1 ∷ 1 ∷ 3 ∷ 80 ∷ 0 ∷ 2 ∷ 9 ∷ 0 ∷ atom_bytes

abbrev below : Step
below = record { spot = among nil nil; kind = Scripted (Atom Op Always); arm = in_third (symbol 3 80) empty }

limit_accepted : Accepted T bench_table [] just_enough limit_bytes (plain Text) (fill (plain Text) (into whole below) a_alone)
unfolding definitions bench_table
limit_accepted = record { style_is = refl; reads = refl; room = 36; is_accepted = refl }

pub limit-frame :
    around bench_table [] (plain Text) whole below (size_in 5)
    ≡ record {
      before = glyph (pos 0) (pos 750) 0 3 80 ∷ [];
      distance = record { across = pos 250; up = neg_ℤ (pos 850) };
      after = [];
    }
unfolding definitions bench_table
limit-frame = refl

pub limit_by_place : ListFieldAsAlone T bench_table [] just_enough limit_bytes (plain Text) 8 (cramp Script) no_sides atom_bytes
unfolding definitions
limit_by_place = by_place limit_bytes limit_accepted (listed_at (plain Text) limit_bytes whole below a_alone 8 atom_bytes limit_accepted.reads refl refl)
