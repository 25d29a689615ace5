-- The writer and the reader undo each other: what is written reads back to the same bytes, and the writer makes a text of exactly the
-- formulas that the reader makes.
--     good_names, fair_names     what is used of a good table's names
--     read_formula_lem               what the reader makes is a formula that reads, as what the text means
--     formula_spelled            a formula that reads is the spelling of its tree
--     read_written               the text of a formula is read to that formula
--     read_again                 there is a text of each formula that the reader makes, which is read to it again
--     writes_exactly             and of no others; with a good table the others are refused (`refuses_exactly`)
-- Assumes nothing.
use Rattle.std.specs.Prelude.{◌≡◌, refl, ◌↔◌, List, ℕ, ◌≤◌, length}
use Rattle.std.proofs.Common.{sym, ap, ◌∙◌, arith}
use Rattle.std.proofs.Math.Option.{none}
use Rattle.words.specs.WordLaws.{Bytes}
use Rattle.formula.specs.Format.{long_format, formula_limit}
use Rattle.formula.specs.Tree.{Items}
use Rattle.formula.specs.Reading.{good, read_formula}
use Rattle.formula_spelling.specs.Spelling.{spelling}
use Rattle.formula.specs.PlacesLaws.{readable_of, tree_is}
use Rattle.formula_spelling.specs.SpellingLaws.{spelled}
use Rattle.formula.specs.FormatLaws.{reads_so}
use Rattle.eqn_tokens.specs.Tokens.{tokens_in}
use Rattle.eqn_names.specs.Names.{Name, names, table_of}
use Rattle.eqn_names.proofs.NamesLaws.{table_records, table_names}
use Rattle.eqn_names.specs.Unknown.{first_unknown}
use Rattle.eqn_grammar.specs.Grammar.{row_tokens}
use Rattle.eqn_grammar.proofs.ParsingLaws.{parse_complete, parse_sound}
use Rattle.eqn_meaning.specs.Meaning.{row_items}
use Rattle.eqn_meaning.specs.Writing.{text_of}
use Rattle.results.specs.Results.{made, refused}
use Rattle.eqn_meaning.specs.Answers.{without_text, read_result, write_result}
use Rattle.eqn_promises.specs.Plain.{FairNames, records_fair, row_plain}
use Rattle.eqn_promises.specs.SpelledBytes.{spelling_bytes}
use Rattle.eqn_promises.specs.ReadsBack.{made_short, made_reads, formula_fits}
use Rattle.eqn_promises.specs.Known.{all_map, GoodNames, known_none, none_known, written_known}
use Rattle.eqn_promises.specs.WritingLaws.{items_of_row}
use Rattle.eqn_promises.specs.WritableLaws.{row_of_items}
use Rattle.eqn_promises.specs.TidyLaws.{formula_tidy}
use Rattle.eqn_promises.specs.TextLaws.{tokens_of_text}
use Rattle.eqn_meaning.specs.MadeLaws.{written_made, ReadSo, read_made}
use Rattle.eqn_promises.specs.OnlySo.{made_written, unmade_refused, made_read}

-- ---- a good table's names

module _ (table : List ℕ) {ns : List Name} (e : table_of table ≡ names ns) where
  pub good_names : GoodNames ns
  good_names m member = table_names table e member

  pub fair_names : Bytes table → FairNames ns
  fair_names byte = records_fair (table_records table e) byte

-- ---- what is made of a text

-- some bytes are a formula within its limits, with this tree
pub record IsFormula (l : Items) (s : List ℕ) : Type 0 where
  pub reads : read_formula s ≡ good l
  pub bytes : Bytes s
  pub short : length s ≤ formula_limit

pub read_formula_lem : {table text formula : List ℕ} → Bytes table → (r : ReadSo table text formula) → IsFormula (row_items r.ns r.row) formula
read_formula_lem {table} byte r =
    let l = row_items r.ns r.row in
    let plain = row_plain r.ns (fair_names table r.names_are byte) r.row in
    record {
      reads = rw (← r.formula_is) (made_reads l r.fits plain);
      bytes = rw (← r.formula_is) (spelling_bytes l plain);
      short = rw (← r.formula_is) (made_short l r.fits);
    }

-- ---- reading what was written

pub formula_spelled : (s : List ℕ) (l : Items) → Bytes s → read_formula s ≡ good l → spelling l ≡ s
formula_spelled s l byte e =
    let reads = (reads_so long_format s l e).1 in
    ap spelling (sym (tree_is s _ l reads)) ∙ spelled s byte (readable_of s _ l reads)

pub read_written : (table formula text : List ℕ) → Bytes formula → write_result table formula ≡ made text → read_result table text ≡ made formula
read_written table formula text byte e =
    let w = made_written e in
    let good = good_names table w.names_are in
    let meant = items_of_row w.ns good w.items w.row (formula_tidy formula w.items w.reads) w.derived in
    let tokens : tokens_in text ≡ row_tokens w.row = ap tokens_in (sym w.text_is) ∙ tokens_of_text w.ns good meant.tokens in
    read_made (record {
      ns = w.ns;
      names_are = w.names_are;
      known = rw tokens (known_none w.ns (all_map (written_known w.ns) meant.tokens));
      row = w.row;
      parsed = rw tokens (parse_complete w.row);
      fits = rw meant.items (formula_fits formula w.items w.reads);
      formula_is = rw meant.items (formula_spelled formula w.items byte w.reads);
    })

-- ---- writing what was read

pub record Again (table formula : List ℕ) : Type 0 where
  pub text : List ℕ
  pub written : write_result table formula ≡ made text
  pub read : read_result table text ≡ made formula

again_so : {table text formula : List ℕ} → Bytes table → ReadSo table text formula → Again table formula
again_so {table} {text} {formula} byte r =
    let l = row_items r.ns r.row in
    let is = read_formula_lem byte r in
    let known : first_unknown r.ns (row_tokens r.row) ≡ none = rw (parse_sound (tokens_in text) r.row r.parsed) r.known in
    let derived = row_of_items r.ns (good_names table r.names_are) r.row (none_known r.ns (row_tokens r.row) known) in
    let again = text_of (row_tokens derived.0) in
    let written : write_result table formula ≡ made again =
    written_made (record {
      ns = r.ns;
      names_are = r.names_are;
      items = l;
      reads = is.reads;
      row = derived.0;
      derived = derived.1;
      text_is = refl;
    }) in
    record { text = again; written = written; read = read_written table formula again is.bytes written }

pub read_again : (table text formula : List ℕ) → Bytes table → read_result table text ≡ made formula → Again table formula
read_again table text formula byte e = again_so byte (made_read e)

pub writes_exactly : (table formula : List ℕ) → Bytes table → Bytes formula →
    ((text : List ℕ) × (write_result table formula ≡ made text)) ↔ ((text : List ℕ) × (read_result table text ≡ made formula))
writes_exactly table formula byte bytes = (
  λ w. (w.0, read_written table formula w.0 bytes w.1),
  λ r. let again = read_again table r.0 formula byte r.1 in (again.text, again.written),
)

pub refuses_exactly : (table formula : List ℕ) {ns : List Name} → table_of table ≡ names ns → Bytes table → Bytes formula →
    (write_result table formula ≡ refused without_text 0) ↔ ((text : List ℕ) → read_result table text ≡ made formula → ⊥)
refuses_exactly table formula names_are byte bytes = (
  λ no_text text e.
      let again = read_again table text formula byte e in
      let no : ◌≡◌ {A = ℕ} 0 1 = cc again.written in
      omega arith,
  λ never. unmade_refused table formula names_are (λ text e. never text (read_written table formula text bytes e)),
)
