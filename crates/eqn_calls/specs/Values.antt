-- What the code's values stand for.
--     refused_as, answered_as      the paper's number, place and size for each answer
--     TestsDone       what has been found of names and text: a refusal, or names and a derivation
--     FormulaSized, TextSized     the size of a formula that fits, and of the text of a formula that has one
-- Assumes nothing.
use Rattle.std.specs.Prelude.{◌≡◌, true, false, List, ℕ, length, Option as CodeOption, Some, None, Result, Ok, Err}
use Rattle.std.proofs.Math.Option.{Option, none, some}
use Rattle.formula.specs.Tree.{Items}
use Rattle.formula_spelling.specs.Spelling.{spelling}
use Rattle.eqn_tokens.specs.Tokens.{tokens_in}
use Rattle.eqn_names.specs.Names.{Name, names, table_of}
use Rattle.eqn_names.specs.Unknown.{first_unknown}
use Rattle.eqn_grammar.specs.Grammar.{Row, row_tokens}
use Rattle.eqn_grammar.specs.Parsing.{whole, parse}
use Rattle.eqn_meaning.specs.Meaning.{fits_formula}
use Rattle.eqn_meaning.specs.Writing.{text_of}
use Rattle.results.specs.Results.{refused, Answered, accepted, refusal}
use Rattle.eqn_meaning.specs.Answers.{read_result, unknown_word, outside_grammar, too_large, no_room, bad_names, without_text}
use Rattle.eqn_calls.specs.declared.Refusal.{Refusal}
use Rattle.eqn_calls.specs.declared.Refusal.TheVariants.{UnknownWord, OutsideGrammar, TooLarge, NoRoom, BadNames, WithoutText}

abbrev pub refused_as : Refusal → Answered
refused_as (UnknownWord place) = refusal unknown_word place
refused_as (OutsideGrammar place) = refusal outside_grammar place
refused_as TooLarge = refusal too_large 0
refused_as NoRoom = refusal no_room 0
refused_as (BadNames place) = refusal bad_names place
refused_as WithoutText = refusal without_text 0

abbrev pub answered_as : Result ℕ Refusal → Answered
answered_as (Ok n) = accepted n
answered_as (Err e) = refused_as e

pub record Refuses (table text : List ℕ) (e : Refusal) : Type 0 where
  pub number : ℕ
  pub place : ℕ
  pub result : read_result table text ≡ refused number place
  pub answer : refused_as e ≡ refusal number place

-- a good table, no unknown word, and a text of the grammar
pub record Derives (table text : List ℕ) : Type 0 where
  pub ns : List Name
  pub names_are : table_of table ≡ names ns
  pub known : first_unknown ns (tokens_in text) ≡ none
  pub row : Row
  pub parsed : parse (tokens_in text) ≡ whole row

abbrev pub TestsDone : List ℕ → List ℕ → Result (Unit {0}) Refusal → Type 0
TestsDone table text (Ok u) = Derives table text
TestsDone table text (Err e) = Refuses table text e

abbrev pub FormulaSized : Items → CodeOption ℕ → Type 0
FormulaSized l (Some e) = (fits_formula l ≡ true) × (e ≡ length (spelling l))
FormulaSized l None = fits_formula l ≡ false

abbrev pub TextSized : Option Row → CodeOption ℕ → Type 0
TextSized o (Some e) = (r : Row) × (o ≡ some r) × (e ≡ length (text_of (row_tokens r)))
TextSized o None = o ≡ none
