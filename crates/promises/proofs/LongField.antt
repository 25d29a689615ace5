-- Demand 3 at work on a list of kind 3: in the bench table and the style T an underlined list of 65,541 bytes, an a and 10,922 kerns of nothing
-- behind it (`long_by_place`).
-- Such a list is too long to compute with. How it reads is shown of any long list that is underlined (`underlined_reads`), and that it is set
-- as its a is, of any number of kerns (`kerns_set` and its neighbours); only the a is computed. `long_at` names the list field by its place, for
-- any list. An older analyser refuses the formula with 3 at 0 (`long_before`).
-- Assumes nothing.
use Rattle.std.specs.Prelude.{◌≡◌, refl, Bool, true, ◌&&◌, ℕ, zero, suc, ◌+◌, ◌*◌, ◌<◌, pos, take}
use Rattle.std.proofs.Common.{sym, ◌∙◌, le_refl, drop-drop}
use Rattle.std.proofs.Math.Path.{subst, ap}
use mathlib.Core.List.{List, [], ◌∷◌, ◌++◌}
use Rattle.std.proofs.Math.Option.{none, some}
use native.Mathlib.Omega.{arith}
use Rattle.std.proofs.Math.IntN.{+ℤ_idr}
use Rattle.std.proofs.Math.ListN.{length, drop, length-append}
use Rattle.std.proofs.Math.Seq.{take_at, drop-append-add}
use borrow.Author.Tests.{le-leb}
use Rattle.words.specs.Words.{little_endian, signed_word}
use Rattle.font.specs.Table.{good_table, good_client}
use Rattle.font.specs.Font.{Font, font_with}
use Rattle.formula.specs.declared.Base.TheVariants.{Under}
use Rattle.formula.specs.declared.Kind.TheVariants.{Scripted}
use Rattle.formula.specs.declared.FieldHead.TheVariants.{Sublist}
use Rattle.formula.specs.declared.Fault.TheVariants.{Unreadable}
use Rattle.formula.specs.Format.{short_format, long_format}
use Rattle.formula.specs.Tree.{Items, nil, cons, noad, kern, list, empty, greatest_short, long_opening_bytes}
use Rattle.formula.specs.Marks.{mark_in, mark_of}
use Rattle.formula.specs.Heads.{atom_of, atom_opening, kern_within, kern_opening, opens, opening_of, symbol_head, sublist_head, long_list_head, field_head_under, field_head}
use Rattle.formula.specs.HeadLaws.{opening_long}
use Rattle.formula.specs.Reading.{good, got, list_got, field_by, held_in, field_at, first_at, third_at, noad_at, opened_by, item_by, before, rest_by, read, read_formula}
use Rattle.formula.specs.ReadingLaws.{read_none, read_some}
use Rattle.formula.specs.FormatLaws.{so_reads}
use Rattle.boxes.specs.declared.styles.Level.TheVariants.{Text}
use Rattle.boxes.specs.declared.styles.Style.{Style}
use Rattle.boxes.specs.Styles.{plain, style_of}
use Rattle.nodes.specs.Nodes.{bytes_in_node}
use Rattle.setting.specs.Setting.{Box, Line, no_sides, start, kerned, style_behind, next_class, set_items, set_item, set_list}
use Rattle.setting.specs.Missing.{later, missing_items}
use Rattle.setting.specs.Fitting.{items_fit, item_fits, list_fits}
use Rattle.answers.specs.Lent.{enough}
use Rattle.answers.specs.Answers.{refused, fault_number, Answered, measured}
use Rattle.answers.proofs.AnswersLaws.{measured_boxed, set_boxed}
use Rattle.promises.proofs.BenchTable.{just_enough, bench_table}
use Rattle.promises.proofs.Definitions.{definitions}
use Rattle.promises.specs.Accepting.{Passed, boxed_of}
use Rattle.promises.specs.ListFields.{ListField, long_list_field, first, in_list, in_one, ListFieldAt, own}
use Rattle.promises.proofs.Demand3.{ListFieldAsAlone, demand_3_at}
use Rattle.promises.proofs.Formats.{result_under, long_answered}
use Rattle.promises.proofs.FieldExample.{T, atom_bytes, ord, a, a_alone}

-- ---- an underlined list of kind 3

-- the list with a length of four bytes, and no scripts
abbrev pub underlined_bytes : ℕ → ℕ → ℕ → ℕ → List ℕ → List ℕ
underlined_bytes a b c d items = 85 ∷ 78 ∷ 3 ∷ a ∷ b ∷ c ∷ d ∷ (items ++ (0 ∷ 0 ∷ []))

abbrev underlined : Items → Items
underlined l = cons (noad (Scripted Under) (list l) empty empty) nil

module _ (a b c d : ℕ) (items : List ℕ) (long : little_endian 4 (a ∷ b ∷ c ∷ d ∷ []) ≡ length items) where
  pub long_at : (u : Style) → ListFieldAt u (underlined_bytes a b c d items) 2 u no_sides items
  unfolding opening_of opens mark_of mark_in
  long_at u =
      let behind = items ++ (0 ∷ 0 ∷ []) in
      let all = take_at items (0 ∷ 0 ∷ []) (little_endian 4 (a ∷ b ∷ c ∷ d ∷ [])) (sym long) in
      own (record {
        item_place = 0;
        item_style_lem = u;
        item = underlined_bytes a b c d items;
        is_set = in_list first;
        kind = Scripted Under;
        opens = refl;
        field_place_lem = 2;
        in_item = in_one;
        place_is = refl;
        is_list_lem = subst (ListField (3 ∷ a ∷ b ∷ c ∷ d ∷ behind)) all (long_list_field a b c d behind);
      })

  module _ (many : greatest_short < length items) (levels : ℕ) (l : Items) (reads : read levels items ≡ good l) where
    abbrev s : List ℕ
    s = underlined_bytes a b c d items

    head_is : field_head (drop 2 s) ≡ Sublist long_opening_bytes (length items)
    unfolding field_head_under long_list_head sublist_head
    head_is =
        let fits = le-leb (length items) (length (items ++ (0 ∷ 0 ∷ []))) (omega (arith, length-append items (0 ∷ 0 ∷ []))) in
        rw (long, opening_long (length items) many, fits, sublist_head) (ap (Sublist long_opening_bytes) long)

    first_is : field_at long_format read (suc levels) s 2 ≡ got (list l) (2 + long_opening_bytes + length items)
    unfolding field_at field_by list_got
    first_is =
        let inner : read levels (take (length items) (items ++ (0 ∷ 0 ∷ []))) ≡ good l =
        ap (read levels) (take_at items (0 ∷ 0 ∷ []) (length items) refl) ∙ reads
        in
        rw (head_is, inner)

    -- the place behind the list, and what stands from there on
    abbrev behind : ℕ
    behind = 2 + long_opening_bytes + length items

    rest_is : (k : ℕ) → drop (behind + k) s ≡ drop k (0 ∷ 0 ∷ [])
    rest_is k =
        let seven : behind + k ≡ 7 + (length items + k) = omega arith in
        ap (λ (n : ℕ). drop n s) seven ∙ sym (drop-drop (length items + k) 7 s) ∙ drop-append-add items (0 ∷ 0 ∷ []) k

    empty_there : (at : ℕ) (r : List ℕ) → drop at s ≡ 0 ∷ r → field_at long_format read (suc levels) s at ≡ got empty (at + 1)
    unfolding field_at field_by field_head_under
    empty_there at r e = rw e

    pub underlined_reads : read (suc levels) s ≡ good (underlined l)
    unfolding rest_by before item_by opened_by noad_at first_at held_in third_at opening_of opens mark_of mark_in
    underlined_reads =
        let second_at : behind ≡ behind + 0 = omega arith in
        let second_is = empty_there behind (0 ∷ []) (ap (λ (n : ℕ). drop n s) second_at ∙ rest_is 0) in
        let third_is = empty_there (behind + 1) [] (rest_is 1) in
        let end-at : behind + 1 + 1 ≡ behind + 2 = omega arith in
        let end = ap (λ (n : ℕ). drop n s) end-at ∙ rest_is 2 in
        let none_left = read_none long_format (suc levels) (drop (behind + 1 + 1) s) (ap length end) in
        read_some long_format (suc levels) s (omega arith) ∙ rw (first_is, second_is, third_is, none_left)

-- ---- kerns of nothing

-- so many, in bytes and as items
pub kerns_bytes : ℕ → List ℕ
kerns_bytes zero = []
kerns_bytes (suc n) = 75 ∷ 78 ∷ 0 ∷ 0 ∷ 0 ∷ 0 ∷ kerns_bytes n

kerns : ℕ → Items
kerns zero = nil
kerns (suc n) = cons (kern (pos 0)) (kerns n)

kerns_long : (n : ℕ) → length (kerns_bytes n) ≡ 6 * n
unfolding kerns_bytes
kerns_long zero = refl
kerns_long (suc n) = omega (arith, kerns_long n)

kerns_read : (levels n : ℕ) → read levels (kerns_bytes n) ≡ good (kerns n)
unfolding kerns_bytes kerns rest_by before item_by opened_by opening_of opens mark_of mark_in kern_opening kern_within signed_word little_endian
kerns_read levels zero = read_none long_format levels [] refl
kerns_read levels (suc n) = read_some long_format levels (kerns_bytes (suc n)) (omega arith) ∙ ap (before (kern (pos 0)) 6) (kerns_read levels n)

kerned_nothing : (b : Box) → kerned b (pos 0) ≡ b
kerned_nothing b =
    ap (λ w. record { size = record { width = w; height = b.size.height; depth = b.size.depth }; nodes = b.nodes }) (+ℤ_idr b.size.width)

kerns_set : (F : Font) (line : Line) (n : ℕ) → set_items F none line (kerns n) ≡ line
unfolding kerns set_items
kerns_set F line zero = refl
kerns_set F line (suc n) =
    let same : set_item F (next_class (style_behind line.style (kern (pos 0))) none (kerns n)) line (kern (pos 0)) ≡ line =
    ap (λ (b : Box). record { left = line.left; style = line.style; box = b }) (kerned_nothing line.box)
    in
    ap (λ (w : Line). set_items F none w (kerns n)) same ∙ kerns_set F line n

kerns_next : (s : Style) (n : ℕ) → next_class s none (kerns n) ≡ none
unfolding kerns next_class style_behind
kerns_next s zero = refl
kerns_next s (suc n) = kerns_next s n

kerns_fit : (F : Font) (s : Style) (n : ℕ) → items_fit F s (kerns n) ≡ true
unfolding kerns items_fit style_behind
kerns_fit F s zero = refl
kerns_fit F s (suc n) = kerns_fit F s n

kerns_present : (F : Font) (s : Style) (n : ℕ) → missing_items F s (kerns n) ≡ none
unfolding kerns missing_items later style_behind
kerns_present F s zero = refl
kerns_present F s (suc n) = rw (kerns_present F s n)

-- ---- an a, and kerns behind it

abbrev pub long_list : List ℕ
long_list = atom_bytes ++ kerns_bytes 10_922

abbrev atom_and : ℕ → Items
atom_and n = cons (noad ord a empty empty) (kerns n)

atom_read : (levels n : ℕ) → read levels (atom_bytes ++ kerns_bytes n) ≡ good (atom_and n)
unfolding rest_by before item_by opened_by opening_of opens mark_of mark_in atom_opening atom_of noad_at first_at held_in third_at field_at field_by field_head_under symbol_head
atom_read levels n =
    read_some long_format levels (atom_bytes ++ kerns_bytes n) (omega arith) ∙ ap (before (noad ord a empty empty) 9) (kerns_read levels n)

module _ (F : Font) (s : Style) (n : ℕ) where
  atom_set : set_items F none (start none s) (atom_and n) ≡ set_items F none (start none s) a_alone
  unfolding set_items next_class style_behind
  atom_set =
      ap (λ o. set_items F none (set_item F o (start none s) (noad ord a empty empty)) (kerns n)) (kerns_next s n)
      ∙ kerns_set F (set_item F none (start none s) (noad ord a empty empty)) n

  atom_fits : items_fit F s (atom_and n) ≡ items_fit F s a_alone
  unfolding items_fit style_behind
  atom_fits = ap (λ (t : Bool). item_fits F s (noad ord a empty empty) && t) (kerns_fit F s n)

  atom_present : missing_items F s a_alone ≡ none → missing_items F s (atom_and n) ≡ none
  unfolding missing_items style_behind later
  atom_present e = rw (kerns_present F s n) e

  underlined_fits : list_fits F no_sides s (underlined (atom_and n)) ≡ list_fits F no_sides s (underlined a_alone)
  unfolding list_fits set_list set_items items_fit style_behind
  underlined_fits = go (atom_and n) a_alone atom_set atom_fits
    where
      go : (l m : Items) → set_items F none (start none s) l ≡ set_items F none (start none s) m → items_fit F s l ≡ items_fit F s m →
          list_fits F no_sides s (underlined l) ≡ list_fits F no_sides s (underlined m)
      go l m set fit = rw (set, fit)

  underlined_present : missing_items F s a_alone ≡ none → missing_items F s (underlined (atom_and n)) ≡ none
  unfolding missing_items later
  underlined_present e = rw (atom_present e)

-- ---- 65,541 bytes

abbrev pub long_formula : List ℕ
long_formula = underlined_bytes 5 0 1 0 long_list

length_is : length long_list ≡ 65_541
length_is = omega (arith, length-append atom_bytes (kerns_bytes 10_922), kerns_long 10_922)

is_long : little_endian 4 (5 ∷ 0 ∷ 1 ∷ 0 ∷ []) ≡ length long_list
unfolding little_endian
is_long = sym length_is

reads : read_formula long_formula ≡ good (underlined (atom_and 10_922))
reads =
    so_reads long_format long_formula (underlined (atom_and 10_922)) (omega (arith, length-append long_list (0 ∷ 0 ∷ []), length_is))
    (underlined_reads 5 0 1 0 long_list is_long (omega (arith, length_is)) 30 (atom_and 10_922) (atom_read 30 10_922))

-- what is computed: of the tables, and of the a alone and underlined
record BenchGood (F : Font) : Type 0 where
  table_good : good_table bench_table ≡ true
  client_good : good_client bench_table [] ≡ true
  words_enough : enough just_enough ≡ true
  none_missing : missing_items F (plain Text) a_alone ≡ none
  fits : list_fits F no_sides (plain Text) (underlined a_alone) ≡ true
  style_is : style_of T ≡ some (plain Text)

bench_good : BenchGood (font_with bench_table [])
unfolding definitions bench_table
bench_good =
    record { table_good = refl; client_good = refl; words_enough = refl; none_missing = refl; fits = refl; style_is = refl }

long_passed : Passed no_sides bench_table [] just_enough (plain Text) (underlined (atom_and 10_922))
long_passed =
    let F = font_with bench_table [] in
    record {
      table_good = bench_good.table_good;
      client_good = bench_good.client_good;
      words_enough = bench_good.words_enough;
      none_missing = underlined_present F (plain Text) 10_922 bench_good.none_missing;
      fits = underlined_fits F (plain Text) 10_922 ∙ bench_good.fits;
    }

pub long_by_place : ListFieldAsAlone T bench_table [] just_enough long_formula (plain Text) 2 (plain Text) no_sides long_list
long_by_place =
    let style_is = bench_good.style_is in
    let is = boxed_of no_sides T bench_table [] just_enough long_formula (plain Text) (underlined (atom_and 10_922)) style_is reads long_passed in
    let room = bytes_in_node * (measured T bench_table [] just_enough long_formula).count in
    let answer =
    set_boxed no_sides T bench_table [] just_enough long_formula _ is room (le_refl room)
    ∙ measured_boxed no_sides T bench_table [] just_enough long_formula _ is
    in
    demand_3_at T bench_table [] just_enough long_formula room (ap (λ (x : Answered). x.number) answer) (plain Text) style_is 2 (plain Text) no_sides
    long_list (long_at 5 0 1 0 long_list is_long (plain Text))

-- document 01's format refuses it, for it is too long there
pub long_before : result_under short_format no_sides T bench_table [] just_enough long_formula ≡ refused (fault_number Unreadable) 0
long_before =
    long_answered T bench_table [] just_enough long_formula (plain Text) bench_good.style_is bench_good.table_good bench_good.client_good
    bench_good.words_enough (omega (arith, length-append long_list (0 ∷ 0 ∷ []), length_is))
