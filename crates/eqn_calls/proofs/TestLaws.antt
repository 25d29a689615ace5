-- What the tests of names, words and grammar say of the definitions.
--     bad_told, good_told         the test of a table
--     stuck_told, whole_told      the test of a text against the grammar
--     refused_with, tests_with     the answer where `?` gives back a refusal
--     bad_refuses, bad_unwritten, unknown_refuses, stuck_refuses     what a test that fails refuses
-- Assumes nothing.
use mathlib.Core.Path.{◌≡◌, refl, sym, ap}
use mathlib.Core.List.{List}
use mathlib.Core.Option.{none, some}
use Prim.Native.Nat.{ℕ}
use native.Mathlib.Omega.{arith}
use Rattle.eqn_tokens.specs.Tokens.{tokens_in, place_in}
use Rattle.eqn_names.specs.Names.{Name, Table, names, bad_at, table_of}
use Rattle.eqn_names.specs.Unknown.{first_unknown}
use Rattle.std.specs.Prelude.{Result, Ok, Err, IsErrAnd}
use Rattle.eqn_names.specs.declared.BadRecord.{BadRecord}
use Rattle.eqn_names.specs.Values.{table_told}
use Rattle.eqn_check.specs.declared.StuckAt.{StuckAt}
use Rattle.eqn_check.specs.Values.{tested_as}
use Rattle.eqn_grammar.specs.Grammar.{Row}
use Rattle.eqn_grammar.specs.Parsing.{Parsed, whole, stuck, parse}
use Rattle.results.specs.Results.{refused}
use Rattle.eqn_meaning.specs.Answers.{read_result, write_result, unknown_word, outside_grammar, bad_names}
use Rattle.eqn_meaning.proofs.ResultLaws.{table_refused, unknown_refused, stuck_refused}
use Rattle.eqn_calls.specs.declared.Refusal.{Refusal}
use Rattle.eqn_calls.specs.declared.Refusal.TheVariants.{UnknownWord, OutsideGrammar, BadNames}
use Rattle.eqn_calls.specs.Values.{refused_as, answered_as, TestsDone, Refuses}

-- ---- the tests

pub bad_told : (t : Table) {bad : BadRecord} → Err bad ≡ table_told t → t ≡ bad_at bad.place
bad_told (names ns) e = let no : ◌≡◌ {A = ℕ} 0 1 = cc in absurd (omega arith)
bad_told (bad_at at) {bad} e = let same : bad ≡ record { place = at } = cc in ap (λ (b : BadRecord). bad_at b.place) (sym same)

pub good_told : (t : Table) {u : Unit {0}} → Ok u ≡ table_told t → (ns : List Name) × (t ≡ names ns)
good_told (names ns) e = (ns, refl)
good_told (bad_at at) e = let no : ◌≡◌ {A = ℕ} 0 1 = cc in absurd (omega arith)

pub stuck_told : (s : List ℕ) (o : Parsed) {at : StuckAt} → Err at ≡ tested_as s o → (n : ℕ) × (o ≡ stuck n) × (at.place ≡ place_in n s)
stuck_told s (whole r) e = let no : ◌≡◌ {A = ℕ} 0 1 = cc in absurd (omega arith)
stuck_told s (stuck n) {at} e = let same : at ≡ record { place = place_in n s } = cc in (n, refl, ap (λ (a : StuckAt). a.place) same)

pub whole_told : (s : List ℕ) (o : Parsed) {u : Unit {0}} → Ok u ≡ tested_as s o → (r : Row) × (o ≡ whole r)
whole_told s (whole r) e = (r, refl)
whole_told s (stuck n) e = let no : ◌≡◌ {A = ℕ} 0 1 = cc in absurd (omega arith)

-- ---- a test that fails

module _ (table text : List ℕ) where
  pub bad_refuses : {p : ℕ} → table_of table ≡ bad_at p → Refuses table text (BadNames p)
  unfolding read_result
  bad_refuses {p} e = record { number = bad_names; place = p; result = table_refused _ (table_of table) e; answer = refl }

  -- of a formula to be written
  pub bad_unwritten : {p : ℕ} → table_of table ≡ bad_at p → write_result table text ≡ refused bad_names p
  unfolding write_result
  bad_unwritten e = table_refused _ (table_of table) e

  module _ {ns : List Name} (good : table_of table ≡ names ns) where
    pub unknown_refuses : {n p : ℕ} → first_unknown ns (tokens_in text) ≡ some n → p ≡ place_in n text → Refuses table text (UnknownWord p)
    unknown_refuses {n} {p} e at =
        record { number = unknown_word; place = place_in n text; result = unknown_refused table text good e; answer = rw at }

    pub stuck_refuses : {n p : ℕ} → first_unknown ns (tokens_in text) ≡ none → parse (tokens_in text) ≡ stuck n → p ≡ place_in n text →
        Refuses table text (OutsideGrammar p)
    stuck_refuses {n} {p} known e at =
        record { number = outside_grammar; place = place_in n text; result = stuck_refused table text good known e; answer = rw at }

-- ---- what `?` gives back

pub refused_with : (e : Refusal) (r : Result ℕ Refusal) → IsErrAnd r (λ x. x ≡ e) → answered_as r ≡ refused_as e
refused_with e (Ok n) is = absurd is
refused_with e (Err x) is = ap refused_as is

pub tests_with : (table text : List ℕ) (e : Refusal) (r : Result (Unit {0}) Refusal) → IsErrAnd r (λ x. x ≡ e) → Refuses table text e → TestsDone table text r
tests_with table text e (Ok u) is refuses = absurd is
tests_with table text e (Err x) is refuses = rw is refuses
