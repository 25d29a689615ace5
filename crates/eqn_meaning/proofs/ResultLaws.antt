-- What the tests of the reader and the writer come to, one after the other.
--     table_refused                   20, of both
--     unread_refused, textless_refused     21
--     unknown_refused, stuck_refused, large_refused     10, 11 and 12
--     fits_within_limits, large_past_limits     whether a formula fits
--     read_place, write_place         a refusal's place lies within the table or the text
-- Assumes nothing.
use Rattle.std.proofs.Math.Path.{◌≡◌, refl}
use Rattle.std.specs.Prelude.{◌⊎◌, Bool, ◌&&◌, List, leb}
use Rattle.std.proofs.Math.Logic.{inl, inr}
use Rattle.std.proofs.Math.Bool.{true, false, cond, and-false}
use Rattle.std.proofs.Math.Option.{Option, none, some}
use Prim.Native.Nat.{ℕ, zero, ◌-◌, ◌≤◌, ◌<◌}
use native.Mathlib.Omega.{arith}
use Rattle.std.proofs.Math.ListN.{length}
use borrow.Author.Tests.{le-leb, lt-leb}
use Rattle.formula.specs.declared.Fault.{Fault}
use Rattle.formula.specs.Tree.{Items, items_bytes}
use Rattle.formula.specs.Format.{formula_limit, depth_limit}
use Rattle.formula.specs.Reading.{Read, good, fault, read_formula}
use Rattle.formula_spelling.specs.Spelling.{spelling}
use Rattle.eqn_tokens.specs.Tokens.{tokens_in, place_in}
use Rattle.eqn_names.specs.Names.{Name, Table, names, bad_at, table_of}
use Rattle.eqn_names.proofs.WithinLaws.{place_within, table_within}
use Rattle.eqn_names.specs.Unknown.{first_unknown}
use Rattle.eqn_grammar.specs.Grammar.{Row}
use Rattle.eqn_grammar.specs.Parsing.{Parsed, whole, stuck, parse}
use Rattle.eqn_meaning.specs.Meaning.{row_items, items_within, fits_formula}
use Rattle.eqn_meaning.specs.Writing.{row_of}
use Rattle.eqn_meaning.specs.SpelledLength.{spelling_length}
use Rattle.results.specs.Results.{Result, made, refused}
use Rattle.eqn_meaning.specs.Answers.{unknown_word, outside_grammar, too_large, bad_names, without_text, if_fits, if_whole, if_known, with_names, read_result, if_derived, if_read, write_result}

-- ---- the tests

pub table_refused : (f : List Name → Result) (t : Table) {p : ℕ} → t ≡ bad_at p → with_names f t ≡ refused bad_names p
unfolding with_names
table_refused f t e = rw e

module _ (table text : List ℕ) {ns : List Name} (good-table : table_of table ≡ names ns) where
  pub unknown_refused : {n : ℕ} → first_unknown ns (tokens_in text) ≡ some n → read_result table text ≡ refused unknown_word (place_in n text)
  unfolding read_result with_names if_known
  unknown_refused e = rw (good-table, e)

  module _ (known : first_unknown ns (tokens_in text) ≡ none) where
    pub stuck_refused : {n : ℕ} → parse (tokens_in text) ≡ stuck n → read_result table text ≡ refused outside_grammar (place_in n text)
    unfolding read_result with_names if_known if_whole
    stuck_refused e = rw (good-table, known, e)

    pub large_refused : {r : Row} → parse (tokens_in text) ≡ whole r → fits_formula (row_items ns r) ≡ false → read_result table text ≡ refused too_large 0
    unfolding read_result with_names if_known if_whole if_fits
    large_refused e f = rw (good-table, known, e, f)

module _ (table formula : List ℕ) {ns : List Name} (good-table : table_of table ≡ names ns) where
  pub unread_refused : {why : Fault} {place : ℕ} → read_formula formula ≡ fault why place → write_result table formula ≡ refused without_text 0
  unfolding write_result with_names if_read
  unread_refused e = rw (good-table, e)

  pub textless_refused : {l : Items} → read_formula formula ≡ good l → row_of ns l ≡ none → write_result table formula ≡ refused without_text 0
  unfolding write_result with_names if_read if_derived
  textless_refused e f = rw (good-table, e, f)

-- ---- the limits of a formula, by the bytes that are written

module _ (l : Items) where
  pub fits_within_limits : items_within l (depth_limit - 1) ≡ true → length (spelling l) ≤ formula_limit → fits_formula l ≡ true
  unfolding fits_formula
  fits_within_limits deep short = rw (deep, le-leb (items_bytes l) formula_limit (omega (arith, spelling_length l)))

  pub large_past_limits : (items_within l (depth_limit - 1) ≡ true → formula_limit < length (spelling l)) → fits_formula l ≡ false
  unfolding fits_formula
  large_past_limits past = go (items_within l (depth_limit - 1)) refl
    where
      go : (t : Bool) → items_within l (depth_limit - 1) ≡ t → (leb (items_bytes l) formula_limit && t) ≡ false
      go true deep = rw (lt-leb (items_bytes l) formula_limit (omega (arith, past deep, spelling_length l)))
      go false deep = and-false (leb (items_bytes l) formula_limit)

-- ---- places

-- a place within the table, or within the text
abbrev pub Within : List ℕ → List ℕ → ℕ → Type 0
Within table text place = (place ≤ length table) ⊎ (place ≤ length text)

module _ (table text : List ℕ) where
  named_within : {f : List Name → Result} → ((ns : List Name) (n p : ℕ) → f ns ≡ refused n p → p ≤ length text) → (t : Table) →
      ((p : ℕ) → t ≡ bad_at p → p ≤ length table) → (n p : ℕ) → with_names f t ≡ refused n p → Within table text p
  unfolding with_names
  named_within later (bad_at place) h n p e = inl (h p (cc))
  named_within later (names ns) h n p e = inr (later ns n p e)

  fits_within : (l : Items) (n p : ℕ) → if_fits l ≡ refused n p → p ≤ length text
  unfolding if_fits
  fits_within l n p e = go (fits_formula l) e
    where
      go : (t : Bool) → cond t (made (spelling l)) (refused too_large 0) ≡ refused n p → p ≤ length text
      go true e = let no : ◌≡◌ {A = ℕ} 0 1 = cc in absurd (omega arith)
      go false e = let z : 0 ≡ p = cc in omega arith

  whole_within : (ns : List Name) (o : Parsed) (n p : ℕ) → if_whole ns text o ≡ refused n p → p ≤ length text
  unfolding if_whole
  whole_within ns (stuck k) n p e = let q : place_in k text ≡ p = cc in omega (arith, place_within zero k text)
  whole_within ns (whole r) n p e = fits_within (row_items ns r) n p e

  known_within : (ns : List Name) (o : Option ℕ) (n p : ℕ) → if_known ns text o ≡ refused n p → p ≤ length text
  unfolding if_known
  known_within ns (some k) n p e = let q : place_in k text ≡ p = cc in omega (arith, place_within zero k text)
  known_within ns none n p e = whole_within ns (parse (tokens_in text)) n p e

  pub read_place : (n p : ℕ) → read_result table text ≡ refused n p → Within table text p
  unfolding read_result
  read_place n p e =
      named_within (λ ns. known_within ns (first_unknown ns (tokens_in text))) (table_of table) (table_within table) n p e

  derived_within : (o : Option Row) (n p : ℕ) → if_derived o ≡ refused n p → p ≤ length text
  unfolding if_derived
  derived_within none n p e = let z : 0 ≡ p = cc in omega arith
  derived_within (some r) n p e = let no : ◌≡◌ {A = ℕ} 0 1 = cc in absurd (omega arith)

  found_within : (ns : List Name) (o : Read) (n p : ℕ) → if_read ns o ≡ refused n p → p ≤ length text
  unfolding if_read
  found_within ns (fault why place) n p e = let z : 0 ≡ p = cc in omega arith
  found_within ns (good l) n p e = derived_within (row_of ns l) n p e

  pub write_place : (n p : ℕ) → write_result table text ≡ refused n p → Within table text p
  unfolding write_result
  write_place n p e = named_within (λ ns. found_within ns (read_formula text)) (table_of table) (table_within table) n p e
