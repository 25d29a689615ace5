-- What an acceptance says, and what it takes.
--     Accepted           setting accepts a formula with room enough; its style, and the tree that it reads to
--     accepted_reads     whatever setting accepts has a style and a tree
--     Passed             of a tree between two sides: both tables are good, words enough are lent, no symbol is missing, and all of it
--                        fits
--     passed, boxed_of   the tree of an accepted formula passes, without sides; bytes whose tree passes are boxed, between the same sides
--     Page, page_of      the nodes that are measured, and that setting leaves in the buffer, are those of the tree
-- Assumes nothing.
use Rattle.std.specs.Prelude.{◌≡◌, Bool, List, ◌++◌, ℕ, ◌*◌, ◌≤◌, length, drop}
use Rattle.std.proofs.Math.Path.{refl}
use Rattle.std.proofs.Common.{sym, ap, ◌∙◌, arith}
use Rattle.std.proofs.Math.Bool.{true, false}
use Rattle.std.proofs.Math.Option.{Option, none, some}
use Rattle.font.specs.Table.{good_table, good_client}
use Rattle.font.specs.Font.{Font, font_with}
use Rattle.formula.specs.declared.Fault.TheVariants.{Unreadable, TooDeep}
use Rattle.formula.specs.Tree.{Items}
use Rattle.formula.specs.Reading.{Read, good, fault, read_formula}
use Rattle.boxes.specs.declared.styles.Style.{Style}
use Rattle.boxes.specs.Styles.{style_of}
use Rattle.boxes.specs.Boxes.{Size}
use Rattle.nodes.specs.Nodes.{Node, bytes_of, bytes_in_node}
use Rattle.setting.specs.Setting.{Box, Sides, no_sides, set_list}
use Rattle.setting.specs.Missing.{missing_items}
use Rattle.setting.specs.Fitting.{list_fits}
use Rattle.answers.specs.Lent.{Lent, enough}
use Rattle.answers.specs.Answers.{Answered, Result, boxed, accepted_number, if_fits, if_present, if_read, if_enough, if_client, if_good, if_style, result_of, result_between, measured, set_by, setting, setting_between, buffer_after}
use Rattle.answers.proofs.AnswersLaws.{tested_is, read_is, box_is, measured_boxed, buffer_boxed}

pub record Accepted (style : ℕ) (table client : List ℕ) (lent : Lent) (formula : List ℕ) (s : Style) (tree : Items) : Type 0 where
  pub style_is : style_of style ≡ some s
  pub reads : read_formula formula ≡ good tree
  pub room : ℕ
  pub is_accepted : (setting style table client lent formula room).number ≡ accepted_number

pub record Passed (sides : Sides) (table client : List ℕ) (lent : Lent) (s : Style) (tree : Items) : Type 0 where
  pub table_good : good_table table ≡ true
  pub client_good : good_client table client ≡ true
  pub words_enough : enough lent ≡ true
  pub none_missing : missing_items (font_with table client) s tree ≡ none
  pub fits : list_fits (font_with table client) sides s tree ≡ true

-- ---- each test that is not passed makes a number other than 0

module _ (room : ℕ) where
  -- of ours, the client's and the words for their indexes
  tables_passed : (F : Font) (s : Style) (r : Read) (t c w : Bool) →
      (set_by room (if_good t c w F no_sides s r)).number ≡ accepted_number → (t ≡ true) × (c ≡ true) × (w ≡ true)
  unfolding if_good if_client if_enough set_by
  tables_passed F s r true true true e = (refl, refl, refl)
  tables_passed F s r true true false e = absurd (omega arith)
  tables_passed F s r true false w e = absurd (omega arith)
  tables_passed F s r false c w e = absurd (omega arith)

  reading_passed : (F : Font) (s : Style) (r : Read) →
      (set_by room (if_read F no_sides s r)).number ≡ accepted_number → (tree : Items) × (r ≡ good tree)
  unfolding if_read set_by
  reading_passed F s (good tree) e = (tree, refl)
  reading_passed F s (fault Unreadable place) e = absurd (omega arith)
  reading_passed F s (fault TooDeep place) e = absurd (omega arith)

  symbols_passed : (F : Font) (s : Style) (l : Items) (m : Option ℕ) →
      (set_by room (if_present F no_sides s l m)).number ≡ accepted_number → m ≡ none
  unfolding if_present set_by
  symbols_passed F s l none e = refl
  symbols_passed F s l (some place) e = absurd (omega arith)

  fit_passed : (b : Box) (t : Bool) → (set_by room (if_fits t b)).number ≡ accepted_number → t ≡ true
  unfolding if_fits set_by
  fit_passed b true e = refl
  fit_passed b false e = absurd (omega arith)

-- ---- a style and a tree

pub accepted_reads : (style : ℕ) (table client : List ℕ) (lent : Lent) (formula : List ℕ) (room : ℕ) →
    (setting style table client lent formula room).number ≡ accepted_number →
    (s : Style) × (tree : Items) × Accepted style table client lent formula s tree
unfolding setting_between result_between if_style set_by if_good if_client if_enough
accepted_reads style table client lent formula room e = go (style_of style) refl e
  where
    F : Font
    F = font_with table client

    go : (o : Option Style) → style_of style ≡ o → (set_by room (if_style no_sides table client lent (read_formula formula) o)).number ≡ accepted_number →
        (s : Style) × (tree : Items) × Accepted style table client lent formula s tree
    go none is q = absurd (omega arith)
    go (some s) is q =
        let t = tables_passed room F s (read_formula formula) (good_table table) (good_client table client) (enough lent) q in
        let read_on : (set_by room (if_read F no_sides s (read_formula formula))).number ≡ accepted_number = rw (t.0, t.1, t.2) at q in
        let r = reading_passed room F s (read_formula formula) read_on in
        (s, r.0, record { style_is = is; reads = r.1; room = room; is_accepted = e })

-- ---- from the answer to the tree, and back

module _ (sides : Sides) (style : ℕ) (table client : List ℕ) (lent : Lent) (formula : List ℕ) (s : Style) (tree : Items) where
  pub boxed_of : style_of style ≡ some s → read_formula formula ≡ good tree → Passed sides table client lent s tree →
      result_between sides style table client lent formula ≡ boxed (set_list (font_with table client) sides s tree)
  unfolding if_read
  boxed_of style_is reads h =
      read_is sides style table client lent formula s style_is h.table_good h.client_good h.words_enough (good tree) reads
      ∙ box_is sides (font_with table client) s tree h.none_missing h.fits

pub passed : {style : ℕ} {table client : List ℕ} {lent : Lent} {formula : List ℕ} {s : Style} {tree : Items} →
    Accepted style table client lent formula s tree → Passed no_sides table client lent s tree
unfolding setting_between if_good if_client if_enough if_read if_present
passed {style} {table} {client} {lent} {formula} {s} {tree} h =
    let F = font_with table client in
    let room = h.room in
    let is = tested_is no_sides style table client lent formula s h.style_is (good_table table) (good_client table client) (enough lent) (good tree) refl refl refl h.reads in
    let tested : (set_by room (if_good (good_table table) (good_client table client) (enough lent) F no_sides s (good tree))).number ≡ accepted_number =
    ap (λ (r : Result). (set_by room r).number) (sym is) ∙ h.is_accepted
    in
    let good-tables = tables_passed room F s (good tree) (good_table table) (good_client table client) (enough lent) tested in
    let tested-symbols : (set_by room (if_present F no_sides s tree (missing_items F s tree))).number ≡ accepted_number =
    rw (good-tables.0, good-tables.1, good-tables.2) at tested
    in
    let none_missing = symbols_passed room F s tree (missing_items F s tree) tested-symbols in
    let tested-fit : (set_by room (if_fits (list_fits F no_sides s tree) (set_list F no_sides s tree))).number ≡ accepted_number =
    rw none_missing at tested-symbols
    in
    record {
      table_good = good-tables.0;
      client_good = good-tables.1;
      words_enough = good-tables.2;
      none_missing = none_missing;
      fits = fit_passed room (set_list F no_sides s tree) (list_fits F no_sides s tree) tested-fit;
    }

-- ---- the page of an accepted formula

-- these nodes, in a box of this size, are what is measured and what setting leaves at the front of a buffer that has room for them
pub record Page (style : ℕ) (table client : List ℕ) (lent : Lent) (formula : List ℕ) (size : Size) (nodes : List Node) : Type 0 where
  pub size_is : (measured style table client lent formula).size ≡ size
  pub count_is : (measured style table client lent formula).count ≡ length nodes
  pub buffer_is : (buffer : List ℕ) →
      let bytes = bytes_in_node * (measured style table client lent formula).count in
      bytes ≤ length buffer → buffer_after style table client lent formula buffer ≡ bytes_of nodes ++ drop bytes buffer

pub page_of : {style : ℕ} {table client : List ℕ} {lent : Lent} {formula : List ℕ} {s : Style} {tree : Items} →
    Accepted style table client lent formula s tree →
    let b = set_list (font_with table client) no_sides s tree in
    Page style table client lent formula b.size b.nodes
page_of {style} {table} {client} {lent} {formula} {s} {tree} h =
    let b = set_list (font_with table client) no_sides s tree in
    let is = boxed_of no_sides style table client lent formula s tree h.style_is h.reads (passed h) in
    let answer = measured_boxed no_sides style table client lent formula b is in
    record {
      size_is = ap (λ (a : Answered). a.size) answer;
      count_is = ap (λ (a : Answered). a.count) answer;
      buffer_is = buffer_boxed no_sides style table client lent formula b is;
    }
