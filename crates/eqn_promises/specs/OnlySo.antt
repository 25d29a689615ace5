-- A text and a formula are made only so, as `MadeLaws` of `eqn_meaning` says.
--     made_written, made_read    what is made has the parts of `WrittenSo` and of `ReadSo`
--     unmade_refused             a formula that no text is made of is refused with 21, if the table is good
-- Assumes nothing.
use Rattle.std.specs.Prelude.{◌≡◌, Bool, true, false, cond, ℕ}
use Rattle.std.proofs.Math.Path.{refl}
use mathlib.Core.List.{List}
use Rattle.std.proofs.Math.Option.{Option, none, some}
use Rattle.std.proofs.Common.{arith}
use Rattle.formula.specs.Tree.{Items}
use Rattle.formula.specs.Reading.{Read, good, fault, read_formula}
use Rattle.formula_spelling.specs.Spelling.{spelling}
use Rattle.eqn_tokens.specs.Tokens.{tokens_in}
use Rattle.eqn_names.specs.Names.{Name, Table, names, bad_at, table_of}
use Rattle.eqn_names.specs.Unknown.{first_unknown}
use Rattle.eqn_grammar.specs.Grammar.{Row, row_tokens}
use Rattle.eqn_grammar.specs.Parsing.{Parsed, whole, stuck, parse}
use Rattle.eqn_meaning.specs.Meaning.{row_items, fits_formula}
use Rattle.eqn_meaning.specs.Writing.{row_of, text_of}
use Rattle.results.specs.Results.{Result, made, refused}
use Rattle.eqn_meaning.specs.Answers.{too_large, without_text, if_fits, if_whole, if_known, with_names, read_result, if_derived, if_read, write_result}
use Rattle.eqn_meaning.specs.MadeLaws.{WrittenSo, ReadSo}

refused_made : {n place : ℕ} {b : List ℕ} → refused n place ≡ made b → ⊥
refused_made e = let no : ◌≡◌ {A = ℕ} 0 1 = cc in omega arith

-- what is made with the names of a table is made with those of a good one
record WithNames (f : List Name → Result) (t : Table) (b : List ℕ) : Type 0 where
  ns : List Name
  is : t ≡ names ns
  makes : f ns ≡ made b

with_names_lem : {b : List ℕ} (f : List Name → Result) (t : Table) → with_names f t ≡ made b → WithNames f t b
unfolding with_names
with_names_lem f (bad_at place) e = absurd (refused_made e)
with_names_lem f (names ns) e = record { ns = ns; is = refl; makes = e }

-- ---- a text made of a formula

module _ {table formula text : List ℕ} (ns : List Name) (names_are : table_of table ≡ names ns) where
  by_row : {l : Items} → read_formula formula ≡ good l → (o : Option Row) → row_of ns l ≡ o → if_derived o ≡ made text → WrittenSo table formula text
  unfolding if_derived
  by_row reads none derived e = absurd (refused_made e)
  by_row {l} reads (some r) derived e =
      record { ns = ns; names_are = names_are; items = l; reads = reads; row = r; derived = derived; text_is = cc }

  by_items : (o : Read) → read_formula formula ≡ o → if_read ns o ≡ made text → WrittenSo table formula text
  unfolding if_read
  by_items (fault why place) reads e = absurd (refused_made e)
  by_items (good l) reads e = by_row reads (row_of ns l) refl e

pub made_written : {table formula text : List ℕ} → write_result table formula ≡ made text → WrittenSo table formula text
unfolding write_result
made_written {table} {formula} e = let w = with_names_lem _ (table_of table) e in by_items w.ns w.is (read_formula formula) refl w.makes

-- with a good table a formula that no text is made of is refused as such
module _ (table formula : List ℕ) {ns : List Name} (names_are : table_of table ≡ names ns) where
  pub unmade_refused : ((text : List ℕ) → write_result table formula ≡ made text → ⊥) → write_result table formula ≡ refused without_text 0
  unfolding write_result with_names if_read if_derived
  unmade_refused never = rw names_are (unread (read_formula formula) (λ text e. never text (rw names_are e)))
    where
      underived : (o : Option Row) → ((text : List ℕ) → if_derived o ≡ made text → ⊥) → if_derived o ≡ refused without_text 0
      underived none never = refl
      underived (some r) never = absurd (never (text_of (row_tokens r)) refl)

      unread : (o : Read) → ((text : List ℕ) → if_read ns o ≡ made text → ⊥) → if_read ns o ≡ refused without_text 0
      unread (fault why place) never = refl
      unread (good l) never = underived (row_of ns l) never

-- ---- a formula made of a text

module _ {table text formula : List ℕ} (ns : List Name) (names_are : table_of table ≡ names ns) (known : first_unknown ns (tokens_in text) ≡ none) where
  by_fit : {r : Row} → parse (tokens_in text) ≡ whole r → (t : Bool) → fits_formula (row_items ns r) ≡ t →
      cond t (made (spelling (row_items ns r))) (refused too_large 0) ≡ made formula → ReadSo table text formula
  by_fit parsed false fits e = absurd (refused_made e)
  by_fit {r} parsed true fits e =
      record { ns = ns; names_are = names_are; known = known; row = r; parsed = parsed; fits = fits; formula_is = cc }

  by_parse : (o : Parsed) → parse (tokens_in text) ≡ o → if_whole ns text o ≡ made formula → ReadSo table text formula
  unfolding if_whole if_fits
  by_parse (stuck n) parsed e = absurd (refused_made e)
  by_parse (whole r) parsed e = by_fit parsed (fits_formula (row_items ns r)) refl e

by_known : {table text formula : List ℕ} (ns : List Name) → table_of table ≡ names ns → (o : Option ℕ) → first_unknown ns (tokens_in text) ≡ o →
    if_known ns text o ≡ made formula → ReadSo table text formula
unfolding if_known
by_known ns names_are (some n) known e = absurd (refused_made e)
by_known {text} ns names_are none known e = by_parse ns names_are known (parse (tokens_in text)) refl e

pub made_read : {table text formula : List ℕ} → read_result table text ≡ made formula → ReadSo table text formula
unfolding read_result
made_read {table} {text} e =
    let w = with_names_lem _ (table_of table) e in by_known w.ns w.is (first_unknown w.ns (tokens_in text)) refl w.makes
