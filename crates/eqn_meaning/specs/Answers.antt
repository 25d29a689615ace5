-- What the reader and the writer of typed text make of any bytes (request 10). The answer to it and the buffer after it are those of any result
-- (`answer_by`, `buffer_by` of crate results), with 13 where there is no room.
--     read_result      20, 10, 11, 12 in this order, or the bytes of the formula
--     write_result     20, then 21, or the bytes of the text
-- Assumes nothing.
use Rattle.std.specs.Prelude.{cond, List, ℕ}
use Rattle.std.proofs.Math.Option.{Option, none, some}
use Rattle.results.specs.Results.{Result, made, refused}
use Rattle.formula.specs.Tree.{Items}
use Rattle.formula.specs.Reading.{Read, good, fault, read_formula}
use Rattle.formula_spelling.specs.Spelling.{spelling}
use Rattle.eqn_tokens.specs.Tokens.{tokens_in, place_in}
use Rattle.eqn_names.specs.Names.{Name, Table, names, bad_at, table_of}
use Rattle.eqn_names.specs.Unknown.{first_unknown}
use Rattle.eqn_grammar.specs.Grammar.{Row, row_tokens}
use Rattle.eqn_grammar.specs.Parsing.{Parsed, whole, stuck, parse}
use Rattle.eqn_meaning.specs.Meaning.{row_items, fits_formula}
use Rattle.eqn_meaning.specs.Writing.{row_of, text_of}

-- ---- the numbers

abbrev pub unknown_word : ℕ
unknown_word = 10

abbrev pub outside_grammar : ℕ
outside_grammar = 11

abbrev pub too_large : ℕ
too_large = 12

abbrev pub no_room : ℕ
no_room = 13

abbrev pub bad_names : ℕ
bad_names = 20

abbrev pub without_text : ℕ
without_text = 21

-- ---- reading

-- 12
unfoldable pub if_fits : Items → Result
if_fits l = cond (fits_formula l) (made (spelling l)) (refused too_large 0)

-- 11
unfoldable pub if_whole : List Name → List ℕ → Parsed → Result
if_whole ns text (stuck n) = refused outside_grammar (place_in n text)
if_whole ns text (whole r) = if_fits (row_items ns r)

-- 10
unfoldable pub if_known : List Name → List ℕ → Option ℕ → Result
if_known ns text (some n) = refused unknown_word (place_in n text)
if_known ns text none = if_whole ns text (parse (tokens_in text))

-- 20; f is what is made with the names
unfoldable pub with_names : (List Name → Result) → Table → Result
with_names f (bad_at place) = refused bad_names place
with_names f (names ns) = f ns

unfoldable pub read_result : List ℕ → List ℕ → Result
read_result table text = with_names (λ ns. if_known ns text (first_unknown ns (tokens_in text))) (table_of table)

-- ---- writing

unfoldable pub if_derived : Option Row → Result
if_derived none = refused without_text 0
if_derived (some r) = made (text_of (row_tokens r))

-- 21
unfoldable pub if_read : List Name → Read → Result
if_read ns (fault why place) = refused without_text 0
if_read ns (good l) = if_derived (row_of ns l)

unfoldable pub write_result : List ℕ → List ℕ → Result
write_result table formula = with_names (λ ns. if_read ns (read_formula formula)) (table_of table)
