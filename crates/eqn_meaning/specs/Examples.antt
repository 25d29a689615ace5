-- Worked examples of request 10, each by computation. Texts are written as such. In the table `x`, `i`, `2`, `a`, `b` and `c` are Ord,
-- `sum` is Op, `+` is Bin, and `plus` is the symbol of `+` as an Ord.
--     both_scripts        the request's own, byte for byte
--     readings            for each sentence of the request texts, what they mean, and how that is written: `each_read`, `each_written`,
--                         and `each_read_again` what is written means the same
--     texts               10, 11 and 12, with their places: `each_refused`; `deepest_read` is just not 12
--     tables              20, with its place, of the reader and of the writer: `each_table_refused`, `each_table_refused_writing`
--     unmade              21, of formulas that read: `each_unmade`, `each_unmade_reads`; `no_formula`
--     no_room_lem, room       13 of the reader, and of the writer `no_room_writing`, `room_writing`; `unchanged`, `kept_behind` what a refusal and an acceptance leave of the buffer
-- Assumes nothing.
use Rattle.std.specs.Prelude.{◌≡◌, refl, List, [], ◌∷◌, ◌++◌, map, ℕ, zero, suc, pos, length, replicate}
use Prim.Native.Char.{code}
use Prim.Native.String as string
use Rattle.words.specs.Words.{little_endian, signed_word, word_of, four_bytes}
use Rattle.formula.specs.declared.Class.{Class}
use Rattle.formula.specs.declared.Class.TheVariants.{Ord, Op, Bin}
use Rattle.formula.specs.declared.Limits.TheVariants.{DisplayOnly, Always, Never}
use Rattle.formula.specs.declared.Bar.TheVariants.{Default, Without}
use Rattle.formula.specs.declared.Base.TheVariants.{Atom, Over}
use Rattle.formula.specs.declared.Kind.TheVariants.{Scripted, Fraction}
use Rattle.formula.specs.Tree.{Items, Item, Field, nil, cons, noad, kern, restyle, choice, empty, symbol, list, list_opening_bytes, items_bytes}
use Rattle.formula.specs.Marks.{mark_in, mark_of}
use Rattle.formula.specs.Heads as heads
use Rattle.formula.specs.Reading as reading
use Rattle.formula_spelling.specs.Spelling.{list_opening, spelling}
use Rattle.eqn_tokens.specs.Bytes.{opening_brace, closing_brace, all_word_bytes, same}
use Rattle.eqn_tokens.specs.Tokens.{keyword_of, token_bytes, run_length, mark_of as tokenOf, tokens_from, place_from}
use Rattle.eqn_names.specs.Names.{front_name, named, record_then, table_step, table_by, table_of, first_for}
use Rattle.eqn_names.specs.Unknown.{first_unknown}
use Rattle.eqn_grammar.specs.Grammar.{row_tokens}
use Rattle.eqn_grammar.specs.Parsing as parsing
use Rattle.eqn_meaning.specs.Meaning.{atom_of, limits_of, row_items, items_within, fits_formula}
use Rattle.eqn_meaning.specs.Writing.{derived_by, row_of, spaced, text_of}
use Rattle.results.specs.Results.{Result, made, refused, accepted, refusal, answer_by, buffer_by}
use Rattle.eqn_meaning.specs.Answers.{no_room, if_fits, if_whole, if_known, with_names, read_result, if_derived, if_read, write_result}

-- the definitions that the examples compute with
unfoldable pub definitions : Unit {0}
unfolding little_endian signed_word word_of four_bytes list_opening_bytes items_bytes mark_in mark_of heads.atom_of heads.atom_opening heads.fraction_of heads.fraction_opening heads.kern_within heads.kern_opening heads.style_opening heads.opens heads.opening_of heads.symbol_head heads.sublist_head heads.list_head heads.long_list_head heads.field_head_under reading.list_got reading.field_by reading.only_list reading.held_in reading.field_at reading.first_at reading.third_at reading.noad_at reading.list_at reading.choice_at reading.opened_by reading.item_by reading.before reading.rest_by reading.list_by reading.read_by reading.read_under reading.read_formula_under list_opening spelling all_word_bytes same keyword_of token_bytes run_length tokenOf tokens_from place_from front_name named record_then table_step table_by table_of first_for first_unknown row_tokens parsing.with_last parsing.joined parsing.may_follow parsing.taking parsing.joining parsing.ended parsing.read parsing.parse_then parsing.parse_from parsing.parse atom_of limits_of row_items items_within fits_formula derived_by row_of spaced text_of if_fits if_whole if_known with_names read_result if_derived if_read write_result answer_by buffer_by
definitions = tt

-- ---- texts and names

abbrev pub typed : string.String → List ℕ
typed string.[] = []
typed (string.◌∷◌ c s) = code c ∷ typed s

-- family, code and class
abbrev name : string.String → ℕ → ℕ → ℕ → List ℕ
name s family character class = length (typed s) ∷ (typed s ++ (family ∷ character ∷ class ∷ []))

abbrev pub table : List ℕ
table =
    name "x" 1 120 0 ++ name "i" 1 105 0 ++ name "2" 0 50 0 ++ name "a" 1 97 0 ++ name "b" 1 98 0 ++ name "c" 1 99 0
    ++ name "sum" 3 80 1 ++ name "+" 0 43 2 ++ name "plus" 0 43 0

-- ---- formulas

abbrev x : Field
x = symbol 1 120

abbrev i : Field
i = symbol 1 105

abbrev two : Field
two = symbol 0 50

abbrev a : Field
a = symbol 1 97

abbrev b : Field
b = symbol 1 98

abbrev c : Field
c = symbol 1 99

abbrev sum : Field
sum = symbol 3 80

abbrev plus : Field
plus = symbol 0 43

infixr 40 ◌beside◌
abbrev ◌beside◌ : Item → Items → Items
i beside l = cons i l

-- with a subscript and a superscript; limits are 0
abbrev atom : Class → Field → Field → Field → Item
atom class f sub sup = noad (Scripted (Atom class DisplayOnly)) f sup sub

abbrev ord : Field → Item
ord f = atom Ord f empty empty

-- an Op with limits 1
abbrev limits : Field → Field → Field → Item
limits f lower upper = noad (Scripted (Atom Op Always)) f upper lower

abbrev fraction : Field → Field → Item
fraction f g = noad (Fraction Default) f g empty

abbrev only : Item → Field
only i = list (i beside nil)

-- so many groups, one in the other
abbrev nested : ℕ → Items
nested zero = nil
nested (suc n) = ord (list (nested n)) beside nil

-- ---- the request's example

-- an Ord with limits 0; x, 2 and i, each behind its kind byte
pub both_scripts : read_result table (typed "x sub i sup 2") ≡ made (typed "AT" ++ (0 ∷ 0 ∷ 1 ∷ 1 ∷ 120 ∷ 1 ∷ 0 ∷ 50 ∷ 1 ∷ 1 ∷ 105 ∷ []))
unfolding definitions
both_scripts = refl

-- ---- what a text means, and how that is written

pub record Reading : Type 0 where
  pub text : string.String
  pub means : Items
  pub written : string.String

abbrev reads : string.String → Items → string.String → Reading
reads text means written = record { text = text; means = means; written = written }

abbrev pub readings : List Reading
readings =
    -- both scripts are one atom's
    reads "x sub i sup 2" (atom Ord x i two beside nil) "x sub i sup 2"
    ∷ reads "x sup 2" (atom Ord x empty two beside nil) "x sup 2"
    -- `sub` and `sup` bind tightest, each to one word or group
    ∷ reads "a over x sub i" (fraction a (only (atom Ord x i empty)) beside nil) "a over { x sub i }"
    ∷ reads "x sub i over a" (fraction (only (atom Ord x i empty)) a beside nil) "{ x sub i } over a"
    ∷ reads "x sub { i over 2 }" (atom Ord x (only (fraction i two)) empty beside nil) "x sub { i over 2 }"
    -- `over` groups to the left
    ∷ reads "a over b over c" (fraction (only (fraction a b)) c beside nil) "{ a over b } over c"
    -- then `from` and `to`, which make an Op with limits 1
    ∷ reads "sum from i to 2" (limits sum i two beside nil) "sum from i to 2"
    ∷ reads "sum from i" (limits sum i empty beside nil) "sum from i"
    ∷ reads "x to 2" (limits x empty two beside nil) "x to 2"
    ∷ reads "a over b from i over 2 to c over x" (limits (only (fraction a b)) (only (fraction i two)) (only (fraction c x)) beside nil)
    "{ a over b } from { i over 2 } to { c over x }"
    -- side by side last
    ∷ reads "a over b sum from i x" (fraction a b beside limits sum i empty beside ord x beside nil) "a over b sum from i x"
    -- the class is the word's, of a group Ord; an Op by its word alone has limits 0
    ∷ reads "sum sub i + 2" (atom Op sum i empty beside atom Bin plus empty empty beside ord two beside nil) "sum sub i + 2"
    ∷ reads "{ sum }" (ord (only (atom Op sum empty empty)) beside nil) "{ sum }"
    ∷ reads "{ + } sub +" (atom Ord (only (atom Bin plus empty empty)) plus empty beside nil) "{ + } sub +"
    -- one bare word is a symbol, a group a list
    ∷ reads "a over { b }" (fraction a (only (ord b)) beside nil) "a over { b }"
    ∷ reads "a sup { { b } }" (atom Ord a empty (only (ord (only (ord b)))) beside nil) "a sup { { b } }"
    -- text and braces may be empty
    ∷ reads "" nil ""
    ∷ reads "{ } sub { }" (atom Ord (list nil) (list nil) empty beside nil) "{ } sub { }"
    -- tab, line feed and space only separate, and braces need none
    ∷ reads "\t\nx\t\tsub  i\n" (atom Ord x i empty beside nil) "x sub i"
    ∷ reads "x{a}b" (ord x beside ord (only (ord a)) beside ord b beside nil) "x { a } b"
    -- the first name of the symbol, and of the class where the atom takes it from the word
    ∷ reads "plus sub plus" (atom Ord plus plus empty beside nil) "plus sub +"
    ∷ reads "plus from i" (limits plus i empty beside nil) "+ from i"
    ∷ []

pub each_read : map (λ (r : Reading). read_result table (typed r.text)) readings
    ≡ map (λ (r : Reading). made (spelling r.means)) readings
unfolding definitions
each_read = refl

pub each_written : map (λ (r : Reading). write_result table (spelling r.means)) readings
    ≡ map (λ (r : Reading). made (typed r.written)) readings
unfolding definitions
each_written = refl

pub each_read_again : map (λ (r : Reading). read_result table (typed r.written)) readings
    ≡ map (λ (r : Reading). made (spelling r.means)) readings
unfolding definitions
each_read_again = refl

-- ---- the reader's refusals

pub record Refusal : Type 0 where
  pub of : List ℕ
  pub number : ℕ
  pub place : ℕ

abbrev refuses : List ℕ → ℕ → ℕ → Refusal
refuses of number place = record { of = of; number = number; place = place }

abbrev said : Refusal → Result
said r = refused r.number r.place

abbrev pub texts : List Refusal
texts =
    -- 10, at the first unknown word, before 11
    refuses (typed "x suby y") 10 2
    ∷ refuses (typed "x sup 2 sub y") 10 12
    ∷ refuses (typed "{ over x} Sum") 10 10
    -- 11, at the first token that can't continue any text: `sub` comes before `sup`, `from` before `to`, each at most once
    ∷ refuses (typed "x sup 2 sub i") 11 8
    ∷ refuses (typed "x sub i sub 2") 11 8
    ∷ refuses (typed "sum to 2 from i") 11 9
    ∷ refuses (typed "sum from a over b from i") 11 18
    -- a keyword has operands, braces match
    ∷ refuses (typed "over x") 11 0
    ∷ refuses (typed "x sub sup 2") 11 6
    ∷ refuses (typed "{ x sub }") 11 8
    ∷ refuses (typed "x } a") 11 2
    -- or at the end
    ∷ refuses (typed "x over") 11 6
    ∷ refuses (typed "{ x ") 11 4
    -- a byte that can stand in no text
    ∷ refuses (typed "x\r") 11 1
    ∷ refuses (typed "a sub \u{7f} over") 11 6
    -- 12: the formula is at depth 1, and a list at 33 is too deep
    ∷ refuses (replicate 32 opening_brace ++ replicate 32 closing_brace) 12 0
    ∷ []

pub each_refused : map (λ (r : Refusal). read_result table r.of) texts ≡ map said texts
unfolding definitions
each_refused = refl

-- a list may be at 32
pub deepest_read : read_result table (replicate 31 opening_brace ++ replicate 31 closing_brace) ≡ made (spelling (nested 31))
unfolding definitions
deepest_read = refl

-- 20, of the reader and the writer, at the first bad record
abbrev pub tables : List Refusal
tables =
    -- it repeats a name, and so the later record is at fault
    refuses (name "a" 1 97 0 ++ name "b" 1 98 0 ++ name "a" 0 98 1) 20 10
    -- it names a keyword
    ∷ refuses (name "a" 1 97 0 ++ name "to" 0 1 0) 20 5
    -- a length of 0, and of 33
    ∷ refuses (name "" 0 1 0) 20 0
    ∷ refuses (33 ∷ (replicate 33 97 ++ (0 ∷ 1 ∷ 0 ∷ []))) 20 0
    -- a byte that is of no word
    ∷ refuses (name "a{" 0 1 0) 20 0
    ∷ refuses (name "a b" 0 1 0) 20 0
    -- family 16, class 8
    ∷ refuses (name "a" 16 1 0) 20 0
    ∷ refuses (name "a" 0 1 8) 20 0
    -- cut off
    ∷ refuses (name "a" 1 97 0 ++ (1 ∷ 98 ∷ 1 ∷ 98 ∷ [])) 20 5
    ∷ []

pub each_table_refused : map (λ (r : Refusal). read_result r.of (typed "unknown over")) tables ≡ map said tables
unfolding definitions
each_table_refused = refl

-- before 21
pub each_table_refused_writing : map (λ (r : Refusal). write_result r.of (typed "no formula")) tables ≡ map said tables
unfolding definitions
each_table_refused_writing = refl

-- ---- 21, a formula that the reader makes from no text with that table

abbrev pub unmade : List Items
unmade =
    -- an Op with limits 1 and no scripts
    (limits sum empty empty beside nil)
    -- limits 2
    ∷ (noad (Scripted (Atom Op Never)) sum empty i beside nil)
    -- no nucleus
    ∷ (ord empty beside nil)
    -- a symbol without a name, and one whose names are of another class
    ∷ (ord (symbol 1 121) beside nil)
    ∷ (atom Op plus empty empty beside nil)
    -- a group that is not an Ord
    ∷ (atom Bin (only (ord a)) empty empty beside nil)
    -- no bar, no denominator
    ∷ (noad (Fraction Without) a b empty beside nil)
    ∷ (fraction a empty beside nil)
    -- other items
    ∷ (noad (Scripted Over) a empty empty beside nil)
    ∷ (kern (pos 3) beside nil)
    ∷ (restyle 2 beside nil)
    ∷ (choice nil nil nil nil beside nil)
    -- further in
    ∷ (ord a beside ord (only (kern (pos 3))) beside nil)
    ∷ []

pub each_unmade : map (λ (l : Items). write_result table (spelling l)) unmade ≡ map (λ (l : Items). refused 21 0) unmade
unfolding definitions
each_unmade = refl

pub each_unmade_reads : map (λ (l : Items). reading.read_formula (spelling l)) unmade ≡ map reading.good unmade
unfolding definitions
each_unmade_reads = refl

-- and bytes that are no formula
pub no_formula : write_result table (65 ∷ 84 ∷ []) ≡ refused 21 0
unfolding definitions
no_formula = refl

-- ---- 13 and the buffer

-- `x` is 9 bytes
pub no_room_lem : answer_by no_room 8 (read_result table (typed "x")) ≡ refusal 13 0
unfolding definitions
no_room_lem = refl

pub room : answer_by no_room 9 (read_result table (typed "x")) ≡ accepted 9
unfolding definitions
room = refl

-- `a over b` is 8 bytes
pub no_room_writing : answer_by no_room 7 (write_result table (spelling (fraction a b beside nil))) ≡ refusal 13 0
unfolding definitions
no_room_writing = refl

pub room_writing : answer_by no_room 8 (write_result table (spelling (fraction a b beside nil))) ≡ accepted 8
unfolding definitions
room_writing = refl

-- a refusal leaves the buffer, an acceptance what stands behind its result
pub unchanged : buffer_by (replicate 8 7) (read_result table (typed "x")) ≡ replicate 8 7
unfolding definitions
unchanged = refl

pub kept_behind : buffer_by (replicate 10 7) (write_result table (spelling (fraction a b beside nil))) ≡ typed "a over b" ++ (7 ∷ 7 ∷ [])
unfolding definitions
kept_behind = refl
