-- The worked examples of document 01, computed by the definition from bytes: P1 to P12 as one table under one statement,
-- `examples_hold`, and the underlined a with the 36 bytes of its two nodes, `underlined_set` and `underlined-buffer`. Of change
-- request 2, `display-from-here`: in T, an ST in the list that a C4 takes makes the operator behind it that of P12. Of request 3,
-- `roots_hold`: the bench's sum is tall enough for the root of a, and its successor for the root of that; a root without a sign. Of
-- request 4, `fences_hold`: the sum on either side of a Punct, with the space before the unseen Close, and a superscript; a Bin between the
-- unseen atoms, which is an Ord, with a blank for the absent delimiter on its left. Of request 6, `client-set`: P12's operator, behind an a,
-- takes its successor from the client's table, and the a in it, of script size, from ours; `client-refused`: refusal 8, where it stands
-- among the others. Of request 7, `why_hold`: what decided the shifts of P7 to P10 and of items that each other quantity decided, and
-- refusal 9. Of request 9, `words-refused`: the same of refusal 19; `client-index`: the front of the words for the client's index. Of
-- request 12, `inks_hold`: the ink of five pages.
-- Assumes nothing.
use Rattle.std.specs.Prelude.{◌≡◌, refl, List, [], ◌∷◌, ◌++◌, map, ℕ, ℤ, pos, neg_ℤ, take}
use Rattle.std.proofs.Math.Option.{Option, none, some}
use Rattle.font.specs.Font.{Font, font_with}
use Rattle.font_index.specs.Index.{index_words, each}
use Rattle.boxes.specs.Boxes.{Size}
use Rattle.nodes.specs.Nodes.{Node, glyph, rule}
use Rattle.reasons.specs.declared.Reason.TheVariants.{Drop, Sigma, XHeight, Gap, Psi, Clearance}
use Rattle.reasons.specs.Reasons.{ShiftReason, shift_by, unshifted}
use Rattle.setting.specs.Setting.{Box}
use Rattle.setting.specs.Ink.{Ink, ink_of}
use Rattle.answers.specs.Lent.{lends, client_index_after}
use Rattle.answers.specs.Answers.{Result, boxed, refused, result_of, Answered, measured, setting, buffer_after}
use Rattle.answers.specs.Why.{WhyAnswered, why_refusal, why_of}
use Rattle.promises.proofs.BenchTable.{just_enough, bench_table, client_table, turning_table}
use Rattle.promises.proofs.Definitions.{definitions}

-- ---- formulas as bytes

-- a field: empty, or a symbol with its family and code
abbrev empty : List ℕ
empty = 0 ∷ []

abbrev symbol : ℕ → ℕ → List ℕ
symbol family code = 1 ∷ family ∷ code ∷ []

abbrev a : List ℕ
a = symbol 1 97

abbrev f : List ℕ
f = symbol 1 102

-- an item: A, T with class and limits, or F, R with the bar
abbrev atom : ℕ → List ℕ → List ℕ → List ℕ → List ℕ
atom class nucleus superscript subscript = 65 ∷ 84 ∷ class ∷ 0 ∷ (nucleus ++ superscript ++ subscript)

abbrev alone : ℕ → List ℕ → List ℕ
alone class nucleus = atom class nucleus empty empty

abbrev fraction : ℕ → List ℕ
fraction bar = 70 ∷ 82 ∷ bar ∷ (a ++ a)

abbrev ord : ℕ
ord = 0

abbrev op : ℕ
op = 1

abbrev punct : ℕ
punct = 6

abbrev plus : List ℕ
plus = alone 2 (symbol 2 43)

abbrev equals : List ℕ
equals = alone 3 (symbol 2 61)

-- ---- the table

pub record Example : Type 0 where
  formula : List ℕ
  style : ℕ
  box : Box

abbrev example : List ℕ → ℕ → ℤ → ℤ → ℤ → List Node → Example
example formula style width height depth nodes =
    record {
      formula = formula;
      style = style;
      box = record { size = record { width = width; height = height; depth = depth }; nodes = nodes };
    }

abbrev minus : ℕ → ℤ
minus n = neg_ℤ (pos n)

-- the numbers of the styles
abbrev D : ℕ
D = 0

abbrev T : ℕ
T = 2

abbrev T' : ℕ
T' = 3

abbrev S : ℕ
S = 4

-- formula, style, width, height, depth, nodes
pub examples : List Example
examples =
    -- P1
    example [] T (pos 0) (pos 0) (pos 0) []
    -- P2
    ∷ example (alone ord f) T (pos 600) (pos 700) (pos 200) (glyph (pos 0) (pos 0) 0 1 102 ∷ [])
    -- P3
    ∷ example (alone ord a ++ plus ++ alone ord a) T (pos 2220) (pos 580) (pos 80)
    (glyph (pos 0) (pos 0) 0 1 97 ∷ glyph (pos 720) (pos 0) 0 2 43 ∷ glyph (pos 1720) (pos 0) 0 1 97 ∷ [])
    -- P4
    ∷ example (alone ord a ++ plus ++ alone ord a) S (pos 1780) (pos 580) (pos 80)
    (glyph (pos 0) (pos 0) 1 1 97 ∷ glyph (pos 500) (pos 0) 1 2 43 ∷ glyph (pos 1280) (pos 0) 1 1 97 ∷ [])
    -- P5
    ∷ example (plus ++ alone ord a) T (pos 1280) (pos 580) (pos 80)
    (glyph (pos 0) (pos 0) 0 2 43 ∷ glyph (pos 780) (pos 0) 0 1 97 ∷ [])
    -- P6
    ∷ example (alone ord a ++ plus ++ equals ++ alone ord a) T (pos 3110) (pos 580) (pos 80)
    (glyph (pos 0) (pos 0) 0 1 97
    ∷ glyph (pos 500) (pos 0) 0 2 43
    ∷ glyph (pos 1555) (pos 0) 0 2 61
    ∷ glyph (pos 2610) (pos 0) 0 1 97
    ∷ [])
    -- P7, twice
    ∷ example (atom ord a a empty) T (pos 33768) (pos 800) (pos 0)
    (glyph (pos 0) (pos 0) 0 1 97 ∷ glyph (pos 500) (pos 370) 1 1 97 ∷ [])
    ∷ example (atom ord a a empty) T' (pos 33768) (pos 720) (pos 0)
    (glyph (pos 0) (pos 0) 0 1 97 ∷ glyph (pos 500) (pos 290) 1 1 97 ∷ [])
    -- P8
    ∷ example (atom ord f a a) T (pos 33868) (pos 800) (pos 250)
    (glyph (pos 0) (pos 0) 0 1 102 ∷ glyph (pos 600) (pos 370) 1 1 97 ∷ glyph (pos 490) (minus 250) 1 1 97 ∷ [])
    -- P9
    ∷ example (atom ord f a a) T' (pos 33868) (pos 774) (pos 246)
    (glyph (pos 0) (pos 0) 0 1 102 ∷ glyph (pos 600) (pos 344) 1 1 97 ∷ glyph (pos 490) (minus 246) 1 1 97 ∷ [])
    -- P10
    ∷ example (fraction 0) T (pos 157786) (pos 830) (pos 350)
    (glyph (pos 78643) (pos 400) 1 1 97
    ∷ rule (pos 78643) (pos 230) (pos 500) (pos 40)
    ∷ glyph (pos 78643) (minus 350) 1 1 97
    ∷ [])
    -- P11
    ∷ example (fraction 1) T (pos 157786) (pos 880) (pos 350)
    (glyph (pos 78643) (pos 450) 1 1 97 ∷ glyph (pos 78643) (minus 350) 1 1 97 ∷ [])
    -- P12
    ∷ example (atom op (symbol 3 80) empty a) D (pos 1400) (pos 950) (pos 1150)
    (glyph (pos 0) (pos 950) 0 3 88 ∷ glyph (pos 450) (minus 1050) 1 1 97 ∷ [])
    ∷ []

pub computed : Example → Result
computed e = result_of e.style bench_table [] just_enough e.formula

pub stated : Example → Result
stated e = boxed e.box

pub examples_hold : map computed examples ≡ map stated examples
unfolding definitions bench_table examples computed stated
examples_hold = refl

-- ---- a style change in a choice

abbrev sublist : ℕ → List ℕ → List ℕ
sublist length items = 2 ∷ length ∷ 0 ∷ items

abbrev choice : List ℕ → List ℕ → List ℕ → List ℕ → List ℕ
choice d t sc ss = 67 ∷ 52 ∷ (d ++ t ++ sc ++ ss)

-- a, then D from here if the style is T, then P12's operator, 165 behind a
pub display-from-here :
    result_of T bench_table [] just_enough
    (alone ord a ++ choice (sublist 0 []) (sublist 3 (83 ∷ 84 ∷ D ∷ [])) (sublist 0 []) (sublist 0 []) ++ atom op (symbol 3 80) empty a)
    ≡ boxed record {
      size = record { width = pos 2065; height = pos 950; depth = pos 1150 };
      nodes =
          glyph (pos 0) (pos 0) 0 1 97 ∷ glyph (pos 665) (pos 950) 0 3 88 ∷ glyph (pos 1115) (minus 1050) 1 1 97 ∷ [];
    }
unfolding definitions bench_table
display-from-here = refl

-- ---- roots

-- R, D with the sum, or with no symbol, for its sign
abbrev root : List ℕ → List ℕ → List ℕ
root nucleus subscript = 82 ∷ 68 ∷ 3 ∷ 80 ∷ 3 ∷ 80 ∷ (nucleus ++ empty ++ subscript)

abbrev signless : List ℕ → List ℕ
signless nucleus = 82 ∷ 68 ∷ 0 ∷ 0 ∷ 0 ∷ 0 ∷ (nucleus ++ empty ++ empty)

pub roots : List Example
roots =
    example (root a a) T (pos 34768) (pos 740) (pos 310)
    (glyph (pos 0) (pos 740) 0 3 80
    ∷ rule (pos 1000) (pos 740) (pos 500) (pos 0)
    ∷ glyph (pos 1000) (pos 0) 0 1 97
    ∷ glyph (pos 1500) (minus 310) 1 1 97
    ∷ [])
    ∷ example (root (sublist 11 (root a empty)) empty) T (pos 2900) (pos 965) (pos 435)
    (glyph (pos 0) (pos 965) 0 3 88
    ∷ rule (pos 1400) (pos 965) (pos 1500) (pos 0)
    ∷ glyph (pos 1400) (pos 740) 0 3 80
    ∷ rule (pos 2400) (pos 740) (pos 500) (pos 0)
    ∷ glyph (pos 2400) (pos 0) 0 1 97
    ∷ [])
    ∷ example (signless a) S (pos 79143) (pos 480) (pos 0)
    (rule (pos 78643) (pos 480) (pos 500) (pos 0) ∷ glyph (pos 78643) (pos 0) 1 1 97 ∷ [])
    ∷ []

pub roots_hold : map computed roots ≡ map stated roots
unfolding definitions bench_table roots computed stated
roots_hold = refl

-- ---- fences

-- F, E with delimiters on the left and on the right: no symbol, or the sum
abbrev blank : List ℕ
blank = 0 ∷ 0 ∷ 0 ∷ 0 ∷ []

abbrev sum : List ℕ
sum = 3 ∷ 80 ∷ 3 ∷ 80 ∷ []

abbrev fence : List ℕ → List ℕ → List ℕ → List ℕ → List ℕ
fence left right inside superscript = 70 ∷ 69 ∷ (left ++ right ++ inside ++ superscript ++ empty)

pub fences : List Example
fences =
    example (fence sum sum (sublist 9 (alone punct a)) a) T (pos 35933) (pos 800) (pos 250)
    (glyph (pos 0) (pos 750) 0 3 80
    ∷ glyph (pos 1000) (pos 0) 0 1 97
    ∷ glyph (pos 1665) (pos 750) 0 3 80
    ∷ glyph (pos 2665) (pos 370) 1 1 97
    ∷ [])
    ∷ example (fence blank sum (sublist 9 plus) empty) T (pos 80423) (pos 750) (pos 250)
    (glyph (pos 78643) (pos 0) 0 2 43 ∷ glyph (pos 79423) (pos 750) 0 3 80 ∷ [])
    ∷ []

pub fences_hold : map computed fences ≡ map stated fences
unfolding definitions bench_table fences computed stated
fences_hold = refl

-- ---- why a shift is what it is

pub record Question : Type 0 where
  formula : List ℕ
  style : ℕ
  place : ℕ
  answer : WhyAnswered

abbrev ask : List ℕ → ℕ → ℕ → WhyAnswered → Question
ask formula style place answer = record { formula = formula; style = style; place = place; answer = answer }

abbrev because : ShiftReason → ShiftReason → WhyAnswered
because up down = record { number = 0; place = 0; reasons = record { up = up; down = down } }

abbrev unpicked : WhyAnswered
unpicked = why_refusal 9 0

-- f with two scripts, for D alone
abbrev chosen_for_d : List ℕ
chosen_for_d = choice (sublist 13 (atom ord f a a)) (sublist 0 []) (sublist 0 []) (sublist 0 [])

-- formula, style, place, what decided the shift up and the shift down
pub questions : List Question
questions =
    -- P7: σ14, and σ15 in T'
    ask (atom ord a a empty) T 0 (because (shift_by Sigma (pos 370)) unshifted)
    ∷ ask (atom ord a a empty) T' 0 (because (shift_by Sigma (pos 290)) unshifted)
    -- P8: the gap is wide enough
    ∷ ask (atom ord f a a) T 0 (because (shift_by Sigma (pos 370)) (shift_by Sigma (pos 250)))
    -- P9: the gap, and then ψ
    ∷ ask (atom ord f a a) T' 0 (because (shift_by Psi (pos 344)) (shift_by Psi (pos 246)))
    -- a subscript as high as f: the gap, and no ψ
    ∷ ask (atom ord f a f) T 0 (because (shift_by Sigma (pos 370)) (shift_by Gap (pos 490)))
    -- that subscript alone: the x-height term
    ∷ ask (atom ord a empty f) T 0 (because unshifted (shift_by XHeight (pos 356)))
    -- the subscript of a root: the drop
    ∷ ask (root a a) T 0 (because unshifted (shift_by Drop (pos 310)))
    -- of a list f the drop and σ17 are equal: the first
    ∷ ask (atom ord (sublist 9 (alone ord f)) a a) T 0 (because (shift_by Sigma (pos 370)) (shift_by Drop (pos 250)))
    -- P10
    ∷ ask (fraction 0) T 0 (because (shift_by Sigma (pos 400)) (shift_by Sigma (pos 350)))
    -- f over a: the clearance of the numerator alone
    ∷ ask (70 ∷ 82 ∷ 0 ∷ (f ++ a)) T 0 (because (shift_by Clearance (pos 510)) (shift_by Sigma (pos 350)))
    -- behind another item, and in a list
    ∷ ask (plus ++ fraction 0) T 9 (because (shift_by Sigma (pos 400)) (shift_by Sigma (pos 350)))
    ∷ ask (alone ord (sublist 13 (atom ord f a a))) T 7 (because (shift_by Sigma (pos 370)) (shift_by Sigma (pos 250)))
    -- behind a style change, D in T: σ13
    ∷ ask (83 ∷ 84 ∷ D ∷ atom ord a a empty) T 3 (because (shift_by Sigma (pos 420)) unshifted)
    -- in the list that a choice takes
    ∷ ask chosen_for_d D 5 (because (shift_by Sigma (pos 420)) (shift_by Sigma (pos 250)))
    -- 9: in one that it does not take
    ∷ ask chosen_for_d T 5 unpicked
    -- 9: within an item, and behind the last
    ∷ ask (atom ord f a a) T 1 unpicked
    ∷ ask (atom ord f a a) T 13 unpicked
    -- 9: without scripts, and a kern
    ∷ ask (alone ord a) T 0 unpicked
    ∷ ask (75 ∷ 78 ∷ 0 ∷ 0 ∷ 0 ∷ 0 ∷ []) T 0 unpicked
    -- 9: P12's limits
    ∷ ask (atom op (symbol 3 80) empty a) D 0 unpicked
    -- the refusals of measuring come first
    ∷ ask (65 ∷ []) T 0 (why_refusal 3 0)
    ∷ []

pub asked : Question → WhyAnswered
asked q = why_of q.style bench_table [] just_enough q.formula q.place

pub answer_of : Question → WhyAnswered
answer_of q = q.answer

pub why_hold : map asked questions ≡ map answer_of questions
unfolding definitions bench_table questions asked answer_of
why_hold = refl

-- ---- a client's table

pub client-set :
    result_of D bench_table client_table just_enough (alone ord a ++ atom op (symbol 3 80) empty a)
    ≡ boxed record {
      size = record { width = pos 2265; height = pos 1050; depth = pos 1250 };
      nodes =
          glyph (pos 0) (pos 0) 0 1 97 ∷ glyph (pos 765) (pos 1050) 0 3 88 ∷ glyph (pos 1265) (minus 1150) 1 1 97 ∷ [];
    }
unfolding definitions bench_table client_table
client-set = refl

-- for a chain over both tables that does not end, and for a table that is cut off; before 3 and behind 2
pub client-refused :
    result_of T bench_table turning_table just_enough (65 ∷ [])
    ∷ result_of T bench_table (67 ∷ []) just_enough []
    ∷ result_of T [] (67 ∷ []) just_enough []
    ∷ []
    ≡ refused 8 0 ∷ refused 8 0 ∷ refused 2 0 ∷ []
unfolding definitions bench_table turning_table
client-refused = refl

-- ---- words for the indexes

-- fewer than 240 of either; before 3 and behind 8
pub words-refused :
    result_of T bench_table [] (lends 240 240) (65 ∷ [])
    ∷ result_of T bench_table [] (lends 239 240) (65 ∷ [])
    ∷ result_of T bench_table [] (lends 240 239) (65 ∷ [])
    ∷ result_of T bench_table (67 ∷ []) (lends 0 0) []
    ∷ []
    ≡ refused 3 0 ∷ refused 19 0 ∷ refused 19 0 ∷ refused 8 0 ∷ []
unfolding definitions bench_table
words-refused = refl

abbrev zeros : List ℕ
zeros = each index_words (λ k. 0 ∷ [])

-- the codes 97 of family 1 and 88 of family 3, in text size, and how many records stand before each family
pub client-index :
    take 25 (client_index_after T bench_table client_table zeros zeros)
    ≡ (0 ∷ 0 ∷ 0 ∷ 0 ∷ 0 ∷ [])
    ++ (0 ∷ 0x200000000 ∷ 0 ∷ 0 ∷ 0 ∷ [])
    ++ (0 ∷ 0 ∷ 0 ∷ 0 ∷ 1 ∷ [])
    ++ (0 ∷ 0x1000000 ∷ 0 ∷ 0 ∷ 1 ∷ [])
    ++ (0 ∷ 0 ∷ 0 ∷ 0 ∷ 2 ∷ [])
unfolding definitions bench_table client_table
client-index = refl

-- ---- the underlined a, in T, with a buffer that has two bytes more than its nodes need

pub underlined : List ℕ
underlined = 85 ∷ 78 ∷ (a ++ empty ++ empty)

pub buffer : List ℕ
buffer =
    9 ∷ 9 ∷ 9 ∷ 9 ∷ 9 ∷ 9 ∷ 9 ∷ 9 ∷ 9 ∷ 9 ∷ 9 ∷ 9 ∷ 9 ∷ 9 ∷ 9 ∷ 9 ∷ 9 ∷ 9 ∷ 9
    ∷ 9 ∷ 9 ∷ 9 ∷ 9 ∷ 9 ∷ 9 ∷ 9 ∷ 9 ∷ 9 ∷ 9 ∷ 9 ∷ 9 ∷ 9 ∷ 9 ∷ 9 ∷ 9 ∷ 9 ∷ 9 ∷ 9 ∷ []

pub underlined_answer : Answered
underlined_answer =
    record {
      number = 0;
      place = 0;
      size = record { width = pos 500; height = pos 430; depth = pos 200 };
      count = 2;
    }

pub underlined_measured : measured T bench_table [] just_enough underlined ≡ underlined_answer
unfolding definitions bench_table underlined underlined_answer
underlined_measured = refl

pub underlined_set : setting T bench_table [] just_enough underlined 38 ≡ underlined_answer
unfolding definitions bench_table underlined underlined_answer
underlined_set = refl

pub underlined-buffer :
    buffer_after T bench_table [] just_enough underlined buffer
    ≡ 0x47 ∷ 0x4c ∷ 0x00 ∷ 0x00 ∷ 0x00 ∷ 0x00 ∷ 0x00 ∷ 0x00 ∷ 0x00
    ∷ 0x00 ∷ 0x00 ∷ 0x01 ∷ 0x61 ∷ 0x00 ∷ 0x00 ∷ 0x00 ∷ 0x00 ∷ 0x00
    ∷ 0x52 ∷ 0x55 ∷ 0x00 ∷ 0x00 ∷ 0x00 ∷ 0x00 ∷ 0x60 ∷ 0xff ∷ 0xff
    ∷ 0xff ∷ 0xf4 ∷ 0x01 ∷ 0x00 ∷ 0x00 ∷ 0x28 ∷ 0x00 ∷ 0x00 ∷ 0x00
    ∷ 9 ∷ 9 ∷ []
unfolding definitions bench_table underlined buffer
underlined-buffer = refl

-- ---- the ink of a page, from bottom to top, in the order of the nodes

abbrev ink : ℤ → ℤ → Option Ink
ink bottom top = some record { bottom = bottom; top = top }

pub record InkExample : Type 0 where
  formula : List ℕ
  style : ℕ
  size : Size
  inks : List (Option Ink)

abbrev inked : List ℕ → ℕ → ℤ → ℤ → ℤ → List (Option Ink) → InkExample
inked formula style width height depth inks =
    record { formula = formula; style = style; size = record { width = width; height = height; depth = depth }; inks = inks }

pub pages : List InkExample
pages =
    -- P8 within a list: the scripts are 190 apart, and four rules are 160
    inked (alone ord (sublist 13 (atom ord f a a))) T (pos 33868) (pos 800) (pos 250)
    (ink (minus 200) (pos 700) ∷ ink (pos 370) (pos 800) ∷ ink (minus 250) (pos 180) ∷ [])
    -- P9 within a list: 160 apart
    ∷ inked (alone ord (sublist 13 (atom ord f a a))) T' (pos 33868) (pos 774) (pos 246)
    (ink (minus 200) (pos 700) ∷ ink (pos 344) (pos 774) ∷ ink (minus 246) (pos 184) ∷ [])
    -- P10 within a superscript, whose baseline is 457 up: the bar's middle is 250 above that, 130 are free over it and 150 under it, and φ is 40
    ∷ inked (atom ord a (sublist 9 (fraction 0)) empty) T (pos 191054) (pos 1287) (pos 0)
    (ink (pos 0) (pos 430) ∷ ink (pos 857) (pos 1287) ∷ ink (pos 687) (pos 727) ∷ ink (pos 107) (pos 537) ∷ [])
    -- a root in a fence: the root's sign is the lowest, and the delimiters are the highest
    ∷ inked (fence sum sum (sublist 11 (root a empty)) empty) T (pos 3500) (pos 750) (pos 260)
    (ink (minus 250) (pos 750)
    ∷ ink (minus 260) (pos 740)
    ∷ ink (pos 740) (pos 740)
    ∷ ink (pos 0) (pos 430)
    ∷ ink (minus 250) (pos 750)
    ∷ [])
    -- a superscript that is an empty list has no ink
    ∷ inked (atom ord a (sublist 0 []) a) T (pos 33768) (pos 430) (pos 250) (ink (pos 0) (pos 430) ∷ ink (minus 250) (pos 180) ∷ [])
    ∷ []

abbrev inks_of : Font → Result → Option Size × List (Option Ink)
inks_of F (boxed b) = (some b.size, map (ink_of F) b.nodes)
inks_of F (refused number place) = (none, [])

pub inks_computed : InkExample → Option Size × List (Option Ink)
inks_computed e = inks_of (font_with bench_table []) (result_of e.style bench_table [] just_enough e.formula)

pub inks_stated : InkExample → Option Size × List (Option Ink)
inks_stated e = (some e.size, e.inks)

pub inks_hold : map inks_computed pages ≡ map inks_stated pages
unfolding definitions bench_table pages inks_computed inks_stated ink_of
inks_hold = refl
