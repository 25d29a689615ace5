-- A text and a formula are made so: the parts that each answer goes through, and that they are enough.
--     WrittenSo, ReadSo          the parts of a text that is made of a formula, and of a formula that is made of a text
--     written_made, read_made    what has these parts is made
-- Assumes nothing.
use Rattle.std.specs.Prelude.{◌≡◌, true, List, ℕ}
use Rattle.std.proofs.Math.Option.{none, some}
use Rattle.formula.specs.Tree.{Items}
use Rattle.formula.specs.Reading.{good, read_formula}
use Rattle.formula_spelling.specs.Spelling.{spelling}
use Rattle.eqn_tokens.specs.Tokens.{tokens_in}
use Rattle.eqn_names.specs.Names.{Name, names, table_of}
use Rattle.eqn_names.specs.Unknown.{first_unknown}
use Rattle.eqn_grammar.specs.Grammar.{Row, row_tokens}
use Rattle.eqn_grammar.specs.Parsing.{whole, parse}
use Rattle.eqn_meaning.specs.Meaning.{row_items, fits_formula}
use Rattle.eqn_meaning.specs.Writing.{row_of, text_of}
use Rattle.results.specs.Results.{made}
use Rattle.eqn_meaning.specs.Answers.{if_fits, if_whole, if_known, with_names, read_result, if_derived, if_read, write_result}

-- ---- a text made of a formula

pub record WrittenSo (table formula text : List ℕ) : Type 0 where
  pub ns : List Name
  pub names_are : table_of table ≡ names ns
  pub items : Items
  pub reads : read_formula formula ≡ good items
  pub row : Row
  pub derived : row_of ns items ≡ some row
  pub text_is : text_of (row_tokens row) ≡ text

module _ {table formula text : List ℕ} where
  pub written_made : WrittenSo table formula text → write_result table formula ≡ made text
  unfolding write_result with_names if_read if_derived
  written_made w = rw (w.names_are, w.reads, w.derived, w.text_is)

-- ---- a formula made of a text

pub record ReadSo (table text formula : List ℕ) : Type 0 where
  pub ns : List Name
  pub names_are : table_of table ≡ names ns
  pub known : first_unknown ns (tokens_in text) ≡ none
  pub row : Row
  pub parsed : parse (tokens_in text) ≡ whole row
  pub fits : fits_formula (row_items ns row) ≡ true
  pub formula_is : spelling (row_items ns row) ≡ formula

module _ {table text formula : List ℕ} where
  pub read_made : ReadSo table text formula → read_result table text ≡ made formula
  unfolding read_result with_names if_known if_whole if_fits
  read_made r = rw (r.names_are, r.known, r.parsed, r.fits, r.formula_is)
