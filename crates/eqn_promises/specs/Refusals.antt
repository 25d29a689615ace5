-- The reader's answers in the words of the request.
--     ReadAs, read_as                  which test decides the answer to a text
--     OutsideAt, outside_exactly       11 exactly where no text of the grammar goes on, at that token's first byte or the end
--     NoFormula, large_exactly         12 exactly where what the text means is no formula
--     MadeFormula, made_formula        what comes out is always a formula, and what the text means
-- Each test has a case of `ReadAs`, so that an answer tells the case by its number.
-- Assumes nothing.
use Rattle.std.specs.Prelude.{◌≡◌, Bool, true, false, cond, List, ◌↔◌, ℕ, suc, ◌<◌, length, take}
use Rattle.std.proofs.Math.Path.{refl}
use Rattle.std.proofs.Common.{sym, ◌∙◌, arith}
use Rattle.std.proofs.lemmas.Bool.{false≢true}
use Rattle.std.proofs.Math.Option.{Option, none, some}
use Rattle.std.proofs.Math.Decide.{dec_lt}
use Rattle.laws.specs.Truths.{by_test}
use Rattle.words.specs.WordLaws.{Bytes}
use Rattle.formula.specs.Reading.{good, read_formula}
use Rattle.formula_spelling.specs.Spelling.{spelling}
use Rattle.eqn_tokens.specs.Tokens.{tokens_in, place_in}
use Rattle.eqn_names.specs.Names.{Name, Table, names, bad_at, table_of}
use Rattle.eqn_names.specs.Unknown.{first_unknown}
use Rattle.eqn_grammar.specs.Grammar.{Row, row_tokens, Viable}
use Rattle.eqn_grammar.specs.Parsing.{Parsed, whole, stuck, parse}
use Rattle.eqn_grammar.proofs.ParsingLaws.{parse_complete, parse_sound, stuck_viable, stuck_within, stuck_there, stuck_end, stuck_is}
use Rattle.results.specs.Results.{Result, made, refused}
use Rattle.eqn_meaning.specs.Meaning.{row_items, fits_formula}
use Rattle.eqn_meaning.specs.Answers.{unknown_word, outside_grammar, too_large, bad_names, if_fits, if_whole, if_known, with_names, read_result}
use Rattle.eqn_meaning.proofs.ResultLaws.{stuck_refused, large_refused}
use Rattle.eqn_promises.specs.Plain.{row_plain}
use Rattle.eqn_promises.specs.ReadsBack.{made_reads, formula_fits}
use Rattle.eqn_promises.specs.OnlySo.{made_read}
use Rattle.eqn_promises.specs.RoundTrip.{IsFormula, fair_names, read_formula_lem}
use Rattle.eqn_promises.specs.TokenPlaces.{StartsAt, token_starts, place_end}

-- ---- which test decides

module _ (table text : List ℕ) where
  -- the tests before the grammar are passed
  record Passed : Type 0 where
    ns : List Name
    names_are : table_of table ≡ names ns
    known : first_unknown ns (tokens_in text) ≡ none

  data ReadAs : Result → Type 0 where
    bad : (p : ℕ) → ReadAs (refused bad_names p)
    unknown : (p : ℕ) → ReadAs (refused unknown_word p)
    outside : (n : ℕ) → Passed → parse (tokens_in text) ≡ stuck n → ReadAs (refused outside_grammar (place_in n text))
    large : (d : Passed) (r : Row) → parse (tokens_in text) ≡ whole r → fits_formula (row_items d.ns r) ≡ false → ReadAs (refused too_large 0)
    fits : (b : List ℕ) → ReadAs (made b)

  module _ (d : Passed) where
    by_fit : (r : Row) → parse (tokens_in text) ≡ whole r → (t : Bool) → fits_formula (row_items d.ns r) ≡ t →
        ReadAs (cond t (made (spelling (row_items d.ns r))) (refused too_large 0))
    by_fit r parsed true e = fits _
    by_fit r parsed false e = large d r parsed e

    by_parse : (o : Parsed) → parse (tokens_in text) ≡ o → ReadAs (if_whole d.ns text o)
    unfolding if_whole if_fits
    by_parse (stuck n) parsed = outside n d parsed
    by_parse (whole r) parsed = by_fit r parsed (fits_formula (row_items d.ns r)) refl

  by_known : (ns : List Name) → table_of table ≡ names ns → (o : Option ℕ) → first_unknown ns (tokens_in text) ≡ o → ReadAs (if_known ns text o)
  unfolding if_known
  by_known ns names_are (some n) known = unknown _
  by_known ns names_are none known = by_parse (record { ns = ns; names_are = names_are; known = known }) (parse (tokens_in text)) refl

  by_table : (t : Table) → table_of table ≡ t → ReadAs (with_names (λ ns. if_known ns text (first_unknown ns (tokens_in text))) t)
  unfolding with_names
  by_table (bad_at p) e = bad p
  by_table (names ns) e = by_known ns e (first_unknown ns (tokens_in text)) refl

  read_as : ReadAs (read_result table text)
  unfolding read_result
  read_as = by_table (table_of table) refl

  -- ---- 11

  -- at a token that no text goes on with, or at the end of what is no text
  pub data Stops (n place : ℕ) : Type 0 where
    at_token : StartsAt text n → place ≡ place_in n text → (Viable (take (suc n) (tokens_in text)) → ⊥) → Stops n place
    at_end_lem : n ≡ length (tokens_in text) → place ≡ length text → ((r : Row) → row_tokens r ≡ tokens_in text → ⊥) → Stops n place

  pub record OutsideAt (place : ℕ) : Type 0 where
    pub ns : List Name
    pub names_are : table_of table ≡ names ns
    pub known : first_unknown ns (tokens_in text) ≡ none
    pub n : ℕ  -- how many tokens some text of the grammar begins with
    pub goes_on_lem : Viable (take n (tokens_in text))
    pub stops : Stops n place

  stops_there : (n : ℕ) → parse (tokens_in text) ≡ stuck n → Dec (n < length (tokens_in text)) → Stops n (place_in n text)
  stops_there n e (yes l) = at_token (token_starts n text l) refl (stuck_there (tokens_in text) n e l)
  stops_there n e (no l) =
      let last : n ≡ length (tokens_in text) = omega (arith, stuck_within (tokens_in text) n e) in
      at_end_lem last (place_end n text (omega arith)) (stuck_end (tokens_in text) n e)

  outside_so : (p : ℕ) (r : Result) → ReadAs r → r ≡ refused outside_grammar p → OutsideAt p
  outside_so p r (bad q) e = let no : ◌≡◌ {A = ℕ} 20 11 = cc in absurd (omega arith)
  outside_so p r (unknown q) e = let no : ◌≡◌ {A = ℕ} 10 11 = cc in absurd (omega arith)
  outside_so p r (outside n d parsed) e =
      let is : place_in n text ≡ p = cc in
      record {
        ns = d.ns;
        names_are = d.names_are;
        known = d.known;
        n = n;
        goes_on_lem = stuck_viable (tokens_in text) n parsed;
        stops = rw is at (stops_there n parsed (dec_lt n (length (tokens_in text))));
      }
  outside_so p r (large d row parsed f) e = let no : ◌≡◌ {A = ℕ} 12 11 = cc in absurd (omega arith)
  outside_so p r (fits b) e = let no : ◌≡◌ {A = ℕ} 0 1 = cc in absurd (omega arith)

  so_outside : {p : ℕ} → OutsideAt p → read_result table text ≡ refused outside_grammar p
  so_outside o = go o.stops
    where
      go : {p : ℕ} → Stops o.n p → read_result table text ≡ refused outside_grammar p
      go (at_token starts is last) =
          let parsed = stuck_is (tokens_in text) o.n (omega (arith, starts.there)) o.goes_on_lem (λ l. last) (λ e. absurd (omega (arith, starts.there))) in
          rw is (stuck_refused table text o.names_are o.known parsed)
      go (at_end_lem all is underived) =
          let parsed = stuck_is (tokens_in text) o.n (omega arith) o.goes_on_lem (λ l. absurd (omega arith)) (λ e. underived) in
          let place : place_in o.n text ≡ length text = place_end o.n text (omega arith) in
          rw (is, ← place) (stuck_refused table text o.names_are o.known parsed)

  pub outside_exactly : (p : ℕ) → (read_result table text ≡ refused outside_grammar p) ↔ OutsideAt p
  outside_exactly p = (outside_so p (read_result table text) read_as, so_outside)

  -- ---- 12

  pub record NoFormula : Type 0 where
    pub ns : List Name
    pub names_are : table_of table ≡ names ns
    pub known : first_unknown ns (tokens_in text) ≡ none
    pub row : Row
    pub derives : row_tokens row ≡ tokens_in text
    pub unread : (s : List ℕ) → read_formula s ≡ good (row_items ns row) → ⊥

  large_so : (p : ℕ) (r : Result) → ReadAs r → r ≡ refused too_large p → (p ≡ 0) × NoFormula
  large_so p r (bad q) e = let no : ◌≡◌ {A = ℕ} 20 12 = cc in absurd (omega arith)
  large_so p r (unknown q) e = let no : ◌≡◌ {A = ℕ} 10 12 = cc in absurd (omega arith)
  large_so p r (outside n d parsed) e = let no : ◌≡◌ {A = ℕ} 11 12 = cc in absurd (omega arith)
  large_so p r (large d row parsed f) e = (
    cc,
    record {
      ns = d.ns;
      names_are = d.names_are;
      known = d.known;
      row = row;
      derives = parse_sound (tokens_in text) row parsed;
      unread = λ s reads. false≢true (sym f ∙ formula_fits s (row_items d.ns row) reads);
    },
  )
  large_so p r (fits b) e = let no : ◌≡◌ {A = ℕ} 0 1 = cc in absurd (omega arith)

  module _ (byte : Bytes table) where
    so_large : NoFormula → read_result table text ≡ refused too_large 0
    so_large f =
        let l = row_items f.ns f.row in
        let plain = row_plain f.ns (fair_names table f.names_are byte) f.row in
        let parsed : parse (tokens_in text) ≡ whole f.row = rw (← f.derives) (parse_complete f.row) in
        large_refused table text f.names_are f.known parsed
        (by_test (fits_formula l) (λ t. absurd (f.unread (spelling l) (made_reads l t plain))) (λ t. t))

    pub large_exactly : (p : ℕ) → (read_result table text ≡ refused too_large p) ↔ ((p ≡ 0) × NoFormula)
    large_exactly p = (large_so p (read_result table text) read_as, λ f. rw f.0 (so_large f.1))

  -- ---- what comes out

  pub record MadeFormula (formula : List ℕ) : Type 0 where
    pub ns : List Name
    pub names_are : table_of table ≡ names ns
    pub row : Row
    pub derives : row_tokens row ≡ tokens_in text
    pub is : IsFormula (row_items ns row) formula

  pub made_formula : {formula : List ℕ} → Bytes table → read_result table text ≡ made formula → MadeFormula formula
  made_formula byte e =
      let r = made_read e in
      record {
        ns = r.ns;
        names_are = r.names_are;
        row = r.row;
        derives = parse_sound (tokens_in text) r.row r.parsed;
        is = read_formula_lem byte r;
      }
