-- With 9 bytes of room for each byte that goes in, no answer is 13.
--     read_room, write_room     of the reader and of the writer
-- A result is never refused with 13 itself (`read_unfull`, `write_unfull`), and what is made has at most so many bytes (`Sizes`).
-- Assumes nothing.
use Rattle.std.specs.Prelude.{◌≡◌, refl, Bool, true, false, cond, List, ℕ, ◌*◌, ◌≤◌, length}
use Rattle.std.proofs.Common.{ap, arith, le-leb}
use Rattle.std.proofs.Math.Option.{Option, none, some}
use Rattle.formula.specs.Reading.{Read, good, fault, read_formula}
use Rattle.formula_spelling.specs.Spelling.{spelling}
use Rattle.eqn_tokens.specs.Tokens.{tokens_in}
use Rattle.eqn_names.specs.Names.{Name, Table, names, bad_at, table_of}
use Rattle.eqn_names.specs.Unknown.{first_unknown}
use Rattle.eqn_grammar.specs.Grammar.{Row}
use Rattle.eqn_grammar.specs.Parsing.{Parsed, whole, stuck, parse}
use Rattle.results.specs.Results.{Result, made, refused, answer_by}
use Rattle.eqn_meaning.specs.Meaning.{row_items, fits_formula}
use Rattle.eqn_meaning.specs.Writing.{row_of}
use Rattle.eqn_meaning.specs.Answers.{too_large, no_room, if_fits, if_whole, if_known, with_names, read_result, if_derived, if_read, write_result}
use Rattle.eqn_promises.specs.Sizes.{read_size, write_size}

-- a result that is not refused for want of room
abbrev Unfull : Result → Type 0
Unfull r = (p : ℕ) → r ≡ refused no_room p → ⊥

other_number : {n q : ℕ} → (n ≡ no_room → ⊥) → Unfull (refused n q)
other_number differs p e = differs (cc)

made_unfull : {b : List ℕ} → Unfull (made b)
made_unfull p e = let no : ◌≡◌ {A = ℕ} 0 1 = cc in omega arith

names_unfull : (f : List Name → Result) → ((ns : List Name) → Unfull (f ns)) → (t : Table) → Unfull (with_names f t)
unfolding with_names
names_unfull f h (bad_at q) = other_number (λ e. omega arith)
names_unfull f h (names ns) = h ns

-- ---- the reader

fit_unfull : (b : List ℕ) (t : Bool) → Unfull (cond t (made b) (refused too_large 0))
fit_unfull b true = made_unfull
fit_unfull b false = other_number (λ e. omega arith)

parse_unfull : (ns : List Name) (text : List ℕ) (o : Parsed) → Unfull (if_whole ns text o)
unfolding if_whole if_fits
parse_unfull ns text (stuck n) = other_number (λ e. omega arith)
parse_unfull ns text (whole r) = fit_unfull (spelling (row_items ns r)) (fits_formula (row_items ns r))

known_unfull : (ns : List Name) (text : List ℕ) (o : Option ℕ) → Unfull (if_known ns text o)
unfolding if_known
known_unfull ns text (some n) = other_number (λ e. omega arith)
known_unfull ns text none = parse_unfull ns text (parse (tokens_in text))

read_unfull : (table text : List ℕ) → Unfull (read_result table text)
unfolding read_result
read_unfull table text = names_unfull _ (λ ns. known_unfull ns text (first_unknown ns (tokens_in text))) (table_of table)

-- ---- the writer

row_unfull : (o : Option Row) → Unfull (if_derived o)
unfolding if_derived
row_unfull none = other_number (λ e. omega arith)
row_unfull (some r) = made_unfull

items_unfull : (ns : List Name) (o : Read) → Unfull (if_read ns o)
unfolding if_read
items_unfull ns (fault why place) = other_number (λ e. omega arith)
items_unfull ns (good l) = row_unfull (row_of ns l)

write_unfull : (table formula : List ℕ) → Unfull (write_result table formula)
unfolding write_result
write_unfull table formula = names_unfull _ (λ ns. items_unfull ns (read_formula formula)) (table_of table)

-- ---- room that is enough

never_full : (room : ℕ) (r : Result) → Unfull r → ((b : List ℕ) → r ≡ made b → length b ≤ room) → (answer_by no_room room r).number ≡ no_room → ⊥
unfolding answer_by
never_full room (made b) unfull fits e =
    let no : ◌≡◌ {A = ℕ} 0 13 = rw (le-leb (length b) room (fits b refl)) at e in
    omega arith
never_full room (refused n q) unfull fits e = unfull q (ap (λ (k : ℕ). refused k q) e)

pub read_room : (table text : List ℕ) (room : ℕ) → 9 * length text ≤ room → (answer_by no_room room (read_result table text)).number ≡ no_room → ⊥
read_room table text room h =
    never_full room (read_result table text) (read_unfull table text) (λ b e. omega (arith, read_size table text e))

pub write_room : (table formula : List ℕ) (room : ℕ) → 9 * length formula ≤ room → (answer_by no_room room (write_result table formula)).number ≡ no_room → ⊥
write_room table formula room h =
    never_full room (write_result table formula) (write_unfull table formula) (λ b e. omega (arith, write_size table formula e))
