-- Demand 3 at work: in the bench table and the style T, the superscript of `a a^{a}`, a list of one symbol.
-- The formula is accepted, so that `demand_3` speaks of it; the field is in the style S, its bytes are 19 to 27 of the formula,
-- two nodes stand before its one node, and it is moved 1000 across and 370 up (P7).
-- By the place of its kind byte it is the list field at 16 (`superscript_by_place`); `nested_at` is one a level deeper.
-- A C4 takes its list for T, an ST that says D; the C4 behind it takes its list for D, `a^{a}`. The superscript there is the list field at
-- 29 (`chosen_by_place`), in the style S, and moved 500 across and 420 up, as in D.
-- The nucleus of a root is the list field at 6 (`nucleus_by_place`), in the style T'; the sign that reaches over it and the rule stand
-- before it, and it is moved 1000 across, as wide as the sign is.
-- A fence's list, a Punct, is the list field at 10 (`inside_by_place`), between an Open and a Close: alone between them it is 665 wide, with
-- the space before the Close, 165, as a formula without neighbours 500 (`inside-width`). A delimiter stands before it and one behind it,
-- 665 behind the list's own place.
-- Assumes nothing.
use Rattle.std.specs.Prelude.{◌≡◌, refl, List, [], ◌∷◌, ◌++◌, ℕ, pos, take, drop}
use Rattle.std.proofs.Common.{arith}
use Rattle.words.specs.Words.{little_endian}
use Rattle.formula.specs.declared.Class.TheVariants.{Ord, Punct}
use Rattle.formula.specs.declared.Limits.TheVariants.{DisplayOnly}
use Rattle.formula.specs.declared.Base.TheVariants.{Atom, Under, Root, Fence}
use Rattle.formula.specs.declared.Kind.{Kind}
use Rattle.formula.specs.declared.Kind.TheVariants.{Scripted}
use Rattle.formula.specs.declared.Delimiter.{Delimiter}
use Rattle.formula.specs.declared.Opening.TheVariants.{Fields}
use Rattle.formula.specs.Heads.{delimiter, opening_of}
use Rattle.formula.specs.Tree.{Items, Field, nil, cons, noad, restyle, choice, empty, symbol, opening_bytes}
use Rattle.boxes.specs.declared.styles.Level.TheVariants.{Display, Text, Script}
use Rattle.boxes.specs.declared.styles.Style.{Style}
use Rattle.boxes.specs.Styles.{plain, cramp}
use Rattle.arrange.specs.Arrange.{first_style, first_manner}
use Rattle.nodes.specs.Nodes.{glyph, rule}
use Rattle.setting.specs.Setting.{Sides, no_sides, fence_sides, sides_of}
use Rattle.setting.specs.Paths.{in_first, in_second, among, within, Step, whole, into, fill}
use Rattle.answers.specs.Answers.{measured, measured_between}
use Rattle.promises.proofs.BenchTable.{just_enough, bench_table}
use Rattle.promises.proofs.Definitions.{definitions}
use Rattle.promises.specs.Accepting.{Accepted}
use Rattle.promises.specs.FieldBytes.{field_part}
use Rattle.promises.specs.ListFields.{list_field, ItemAt, first, past_fields, past_style, past_choice, in_list, in_taken, in_one, in_two, OwnListField, ListFieldAt, own, deeper}
use Rattle.promises.proofs.Demand3.{field_style_number, around, FieldAsAlone, demand_3, ListFieldAsAlone, demand_3_at}

abbrev pub T : ℕ
T = 2

abbrev pub atom_bytes : List ℕ
atom_bytes = 65 ∷ 84 ∷ 0 ∷ 0 ∷ 1 ∷ 1 ∷ 97 ∷ 0 ∷ 0 ∷ []

abbrev formula : List ℕ
formula = atom_bytes ++ (65 ∷ 84 ∷ 0 ∷ 0 ∷ 1 ∷ 1 ∷ 97 ∷ 2 ∷ 9 ∷ 0 ∷ (atom_bytes ++ (0 ∷ [])))

abbrev pub ord : Kind
ord = Scripted (Atom Ord DisplayOnly)

abbrev pub a : Field
a = symbol 1 97

-- the list a
abbrev pub a_alone : Items
a_alone = cons (noad ord a empty empty) nil

-- past the first a, into the second field of the second item, whose nucleus is a
abbrev superscript : Step
superscript = record { spot = among a_alone nil; kind = ord; arm = in_second a empty }

is_accepted : Accepted T bench_table [] just_enough formula (plain Text) (fill (plain Text) (into whole superscript) a_alone)
unfolding definitions bench_table
is_accepted = record { style_is = refl; reads = refl; room = 54; is_accepted = refl }

pub superscript_as_alone : FieldAsAlone T bench_table [] just_enough formula (plain Text) whole superscript a_alone
superscript_as_alone = demand_3 T bench_table [] just_enough formula (plain Text) whole superscript a_alone is_accepted

pub superscript_bytes : field_part (plain Text) (into whole superscript) a_alone formula ≡ atom_bytes
unfolding definitions
superscript_bytes = refl

pub superscript_style_lem : field_style_number (plain Text) whole superscript ≡ 4
unfolding definitions
superscript_style_lem = refl

pub superscript-frame :
    around bench_table [] (plain Text) whole superscript (measured 4 bench_table [] just_enough atom_bytes).size
    ≡ record {
      before = glyph (pos 0) (pos 0) 0 1 97 ∷ glyph (pos 500) (pos 0) 0 1 97 ∷ [];
      distance = record { across = pos 1000; up = pos 370 };
      after = [];
    }
unfolding definitions bench_table
superscript-frame = refl

-- ---- by the place of the kind byte

-- a list field of a formula that the bench table accepts in T
pub by_place : (formula : List ℕ) {l : Items} {place : ℕ} {v : Style} {sides : Sides} {field : List ℕ} →
    Accepted T bench_table [] just_enough formula (plain Text) l → ListFieldAt (plain Text) formula place v sides field →
    ListFieldAsAlone T bench_table [] just_enough formula (plain Text) place v sides field
by_place formula h f = demand_3_at T bench_table [] just_enough formula h.room h.is_accepted (plain Text) h.style_is _ _ _ _ f

superscript_at : ListFieldAt (plain Text) formula 16 (plain Script) no_sides atom_bytes
unfolding definitions
superscript_at =
    own (record {
      item_place = 9;
      item_style_lem = plain Text;
      item = drop 9 formula;
      is_set = in_list (past_fields 0 ord refl first);
      kind = ord;
      opens = refl;
      field_place_lem = 7;
      in_item = in_two;
      place_is = refl;
      is_list_lem = list_field 9 0 (atom_bytes ++ (0 ∷ []));
    })

pub superscript_by_place : ListFieldAsAlone T bench_table [] just_enough formula (plain Text) 16 (plain Script) no_sides atom_bytes
superscript_by_place = by_place formula is_accepted superscript_at

-- a list in the first field of the first item
in_first_lem : (u : Style) (s : List ℕ) (kind : Kind) (low high : ℕ) (rest : List ℕ) → opening_of s ≡ Fields kind →
    drop (opening_bytes kind) s ≡ 2 ∷ low ∷ high ∷ rest →
    OwnListField u s (opening_bytes kind) (first_style kind u) (sides_of (first_manner kind u)) (take (little_endian 2 (low ∷ high ∷ [])) rest)
in_first_lem u s kind low high rest opens there =
    record {
      item_place = 0;
      item_style_lem = u;
      item = s;
      is_set = in_list first;
      kind = kind;
      opens = opens;
      field_place_lem = opening_bytes kind;
      in_item = in_one;
      place_is = omega arith;
      is_list_lem = rw there (list_field low high rest);
    }

-- an underlined list
underlined : (u : Style) (low high : ℕ) (rest : List ℕ) →
    OwnListField u (85 ∷ 78 ∷ 2 ∷ low ∷ high ∷ rest) 2 u no_sides (take (little_endian 2 (low ∷ high ∷ [])) rest)
unfolding definitions
underlined u low high rest = in_first_lem u (85 ∷ 78 ∷ 2 ∷ low ∷ high ∷ rest) (Scripted Under) low high rest refl refl

abbrev empty_underlined : List ℕ
empty_underlined = 85 ∷ 78 ∷ 2 ∷ 0 ∷ 0 ∷ 0 ∷ 0 ∷ []

-- the empty list within the list that is underlined
pub nested_at : (u : Style) → ListFieldAt u (85 ∷ 78 ∷ 2 ∷ 7 ∷ 0 ∷ (empty_underlined ++ (0 ∷ 0 ∷ []))) 7 u no_sides []
unfolding definitions
nested_at u =
    deeper (own (underlined u 7 0 (empty_underlined ++ (0 ∷ 0 ∷ [])))) (underlined u 0 0 (0 ∷ 0 ∷ []))

-- ---- behind a style change, in the list that a choice takes

-- a with the superscript a, a list
abbrev raised : List ℕ
raised = 65 ∷ 84 ∷ 0 ∷ 0 ∷ 1 ∷ 1 ∷ 97 ∷ 2 ∷ 9 ∷ 0 ∷ (atom_bytes ++ (0 ∷ []))

abbrev empty_list : List ℕ
empty_list = 2 ∷ 0 ∷ 0 ∷ []

-- the list of one ST, D
abbrev display : List ℕ
display = 83 ∷ 84 ∷ 0 ∷ []

-- that list for T, and behind it the list raised for D
abbrev chosen : List ℕ
chosen =
    67 ∷ 52 ∷ empty_list ++ (2 ∷ 3 ∷ 0 ∷ display) ++ empty_list ++ empty_list
    ++ (67 ∷ 52 ∷ 2 ∷ 20 ∷ 0 ∷ raised) ++ empty_list ++ empty_list ++ empty_list

-- past the first choice, in the list that the second takes
abbrev in_choice : Step
in_choice =
    record {
      spot = within (cons (choice nil (cons (restyle 0) nil) nil nil) nil) nil nil nil (among nil nil) nil;
      kind = ord;
      arm = in_second a empty;
    }

chosen_accepted : Accepted T bench_table [] just_enough chosen (plain Text) (fill (plain Text) (into whole in_choice) a_alone)
unfolding definitions bench_table
chosen_accepted = record { style_is = refl; reads = refl; room = 36; is_accepted = refl }

pub chosen-frame :
    around bench_table [] (plain Text) whole in_choice (measured 4 bench_table [] just_enough atom_bytes).size
    ≡ record {
      before = glyph (pos 0) (pos 0) 0 1 97 ∷ [];
      distance = record { across = pos 500; up = pos 420 };
      after = [];
    }
unfolding definitions bench_table
chosen-frame = refl

chosen_at : ListFieldAt (plain Text) chosen 29 (plain Script) no_sides atom_bytes
unfolding definitions
chosen_at =
    own (record {
      item_place = 22;
      item_style_lem = plain Display;
      item = raised;
      is_set = in_taken past_first refl (list_field 20 0 (raised ++ empty_list ++ empty_list ++ empty_list)) (in_list first);
      kind = ord;
      opens = refl;
      field_place_lem = 7;
      in_item = in_two;
      place_is = refl;
      is_list_lem = list_field 9 0 (atom_bytes ++ (0 ∷ []));
    })
  where
    past_first : ItemAt (plain Text) chosen 17 (plain Display)
    past_first = past_choice 0 refl (list_field 3 0 (drop 8 chosen)) (past_style 0 0 refl refl first) first

pub chosen_by_place : ListFieldAsAlone T bench_table [] just_enough chosen (plain Text) 29 (plain Script) no_sides atom_bytes
chosen_by_place = by_place chosen chosen_accepted chosen_at

-- ---- in a root

-- the root of the list a, with the sum for its sign
abbrev rooted : List ℕ
rooted = 82 ∷ 68 ∷ 3 ∷ 80 ∷ 3 ∷ 80 ∷ 2 ∷ 9 ∷ 0 ∷ (atom_bytes ++ (0 ∷ 0 ∷ []))

abbrev root : Kind
root = Scripted (Root (delimiter 3 80 3 80))

abbrev nucleus : Step
nucleus = record { spot = among nil nil; kind = root; arm = in_first empty empty }

rooted_accepted : Accepted T bench_table [] just_enough rooted (plain Text) (fill (plain Text) (into whole nucleus) a_alone)
unfolding definitions bench_table
rooted_accepted = record { style_is = refl; reads = refl; room = 54; is_accepted = refl }

pub nucleus-frame :
    around bench_table [] (plain Text) whole nucleus (measured 3 bench_table [] just_enough atom_bytes).size
    ≡ record {
      before = glyph (pos 0) (pos 740) 0 3 80 ∷ rule (pos 1000) (pos 740) (pos 500) (pos 0) ∷ [];
      distance = record { across = pos 1000; up = pos 0 };
      after = [];
    }
unfolding definitions bench_table
nucleus-frame = refl

nucleus_at : ListFieldAt (plain Text) rooted 6 (cramp Text) no_sides atom_bytes
unfolding definitions
nucleus_at = own (in_first_lem (plain Text) rooted root 9 0 (atom_bytes ++ (0 ∷ 0 ∷ [])) refl refl)

pub nucleus_by_place : ListFieldAsAlone T bench_table [] just_enough rooted (plain Text) 6 (cramp Text) no_sides atom_bytes
nucleus_by_place = by_place rooted rooted_accepted nucleus_at

-- ---- in a fence

-- a as a Punct
abbrev punct_bytes : List ℕ
punct_bytes = 65 ∷ 84 ∷ 6 ∷ 0 ∷ 1 ∷ 1 ∷ 97 ∷ 0 ∷ 0 ∷ []

abbrev punct_alone : Items
punct_alone = cons (noad (Scripted (Atom Punct DisplayOnly)) a empty empty) nil

-- the sum on either side of it
abbrev enclosed : List ℕ
enclosed = 70 ∷ 69 ∷ 3 ∷ 80 ∷ 3 ∷ 80 ∷ 3 ∷ 80 ∷ 3 ∷ 80 ∷ 2 ∷ 9 ∷ 0 ∷ (punct_bytes ++ (0 ∷ 0 ∷ []))

abbrev sum : Delimiter
sum = delimiter 3 80 3 80

abbrev fence : Kind
fence = Scripted (Fence sum sum)

abbrev inside : Step
inside = record { spot = among nil nil; kind = fence; arm = in_first empty empty }

enclosed_accepted : Accepted T bench_table [] just_enough enclosed (plain Text) (fill (plain Text) (into whole inside) punct_alone)
unfolding definitions bench_table
enclosed_accepted = record { style_is = refl; reads = refl; room = 54; is_accepted = refl }

-- alone, between its sides and as a formula
pub inside-width :
    (measured_between fence_sides T bench_table [] just_enough punct_bytes).size.width ∷ (measured T bench_table [] just_enough punct_bytes).size.width ∷ []
    ≡ pos 665 ∷ pos 500 ∷ []
unfolding definitions bench_table
inside-width = refl

pub inside-frame :
    around bench_table [] (plain Text) whole inside (measured_between fence_sides T bench_table [] just_enough punct_bytes).size
    ≡ record {
      before = glyph (pos 0) (pos 750) 0 3 80 ∷ [];
      distance = record { across = pos 1000; up = pos 0 };
      after = glyph (pos 1665) (pos 750) 0 3 80 ∷ [];
    }
unfolding definitions bench_table
inside-frame = refl

inside_at : ListFieldAt (plain Text) enclosed 10 (plain Text) fence_sides punct_bytes
unfolding definitions
inside_at = own (in_first_lem (plain Text) enclosed fence 9 0 (punct_bytes ++ (0 ∷ 0 ∷ [])) refl refl)

pub inside_by_place : ListFieldAsAlone T bench_table [] just_enough enclosed (plain Text) 10 (plain Text) fence_sides punct_bytes
inside_by_place = by_place enclosed enclosed_accepted inside_at
