-- From what the code finds to the answers of the definition, a law for each way out of it.
--     left_alone, built_both          the words where a test before the reading refuses, and where none does
--     stopped, fault_refused, formula_reads     what is found before the walk
--     whole_examined, large_examined, missing_examined     what the walk without room comes to
--     examined_found                  what the walk finds is what is found of the whole
-- Assumes nothing.
use mathlib.Core.Path.{◌≡◌, refl, sym, ap, ◌∙◌}
use mathlib.Core.Bool.{Bool, true, false, and-eq-true_iff}
use mathlib.Core.List.{List, [], ◌++◌}
use mathlib.Core.Option.{some}
use Prim.Native.Nat.{ℕ}
use Rattle.std.specs.Prelude.{Result, Ok, Err}
use lib.ListN.{drop}
use Rattle.font.specs.Records.{character_records, client_records}
use Rattle.font.specs.Font.{Font, font_with}
use Rattle.font.specs.FontLaws.{sound_tables}
use Rattle.font_index.specs.Index.{index_words, index_of}
use Rattle.formula.specs.declared.Fault.{Fault}
use Rattle.formula.specs.Tree.{Items}
use Rattle.formula.specs.Reading.{fault, read_formula}
use Rattle.formula.specs.Places.{tree_of}
use Rattle.formula.specs.PlacesLaws.{FormulaIs}
use Rattle.boxes.specs.declared.styles.Style.{Style}
use Rattle.boxes.specs.Values.{size_as}
use Rattle.setting.specs.Setting.{no_sides, set_list}
use Rattle.setting.specs.Missing.{missing_items}
use Rattle.setting.specs.Fitting.{box_fits, items_fit, list_fits}
use Rattle.answers.specs.Lent.{Lent, lent_of, builds, built_if, index_after, client_index_after}
use Rattle.answers.specs.Answers.{refusal, fault_number, missing_number, too_large_number, if_read, result_of, measured}
use Rattle.answers.proofs.AnswersLaws.{read_is, missing_refused, box_is, large_refused, measured_refused}
use Rattle.answers.proofs.LentLaws.{index_in_front, early, measuring_leaves}
use Rattle.walk_fields.specs.declared.lines.Line as lines
use Rattle.walk_fields.specs.Values.{line_fits}
use Rattle.walk_fields.specs.Lists.{ListWhole}
use Rattle.walk_fields.specs.ListLaws.{line_fits_lem}
use Rattle.layout_answers.specs.declared.Refusal.{Refusal}
use Rattle.layout_answers.specs.declared.Refusal.TheVariants.{Missing, TooLarge}
use Rattle.layout_answers.specs.Values.{refusal_as}
use Rattle.layout_test.specs.Tested.{Passes, Stops}
use Rattle.layout_find.specs.declared.Found.{Found}
use Rattle.layout_find.specs.Found.{Refuses, read_result, Reads, Examined, FoundOf}

-- ---- what is found before the walk, and the words

-- the words i and j, lent for a call, where its indexes are built
pub record Built (table client i j i' j' : List ℕ) : Type 0 where
  pub ours_is : i' ≡ index_of (character_records table) ++ drop index_words i
  pub theirs_is : j' ≡ index_of (client_records client) ++ drop index_words j

module _ (style : ℕ) (table client i j : List ℕ) where
  abbrev lent : Lent
  lent = lent_of i j

  module _ (r : Refusal) (h : Stops style table client lent r) where
    pub stopped : (formula : List ℕ) → Refuses r (result_of style table client lent formula)
    stopped formula = record { number = h.number; place = 0; result_is = h.result_is formula; answer_is = h.answer_is }

    pub left_alone : (i ≡ index_after style table client i j) × (j ≡ client_index_after style table client i j)
    left_alone =
        let refused = measured_refused no_sides style table client lent [] h.number 0 (h.result_is []) in
        let is_early : early (measured style table client lent []).number ≡ true = rw refused h.is_early in
        let w = measuring_leaves no_sides style table client i j [] in
        (sym (w.index_left.unchanged is_early), sym (w.client_index_left.unchanged is_early))

  module _ (s : Style) (i' j' : List ℕ) (h : Passes style table client lent s) (b : Built table client i j i' j') where
    builds_is : builds style table client lent ≡ true
    unfolding builds
    builds_is = rw (h.style_is, h.table_good, h.client_good, h.words_enough) refl

    pub built_both : (i' ≡ index_after style table client i j) × (j' ≡ client_index_after style table client i j)
    unfolding built_if
    built_both = (
      b.ours_is ∙ sym (ap (λ (t : Bool). built_if t (character_records table) i) builds_is),
      b.theirs_is ∙ sym (ap (λ (t : Bool). built_if t (client_records client) j) builds_is),
    )

    pub fault_refused : (formula : List ℕ) (why : Fault) (place : ℕ) (r : Refusal) → read_formula formula ≡ fault why place →
        refusal_as r ≡ refusal (fault_number why) place → Refuses r (result_of style table client lent formula)
    unfolding if_read
    fault_refused formula why place r e answer_is =
        record {
          number = fault_number why;
          place = place;
          result_is = read_is no_sides style table client lent formula s h.style_is h.table_good h.client_good h.words_enough (fault why place) e;
          answer_is = answer_is;
        }

    pub formula_reads : (formula : List ℕ) → FormulaIs formula → Reads style table client lent formula i' j' s
    unfolding if_read
    formula_reads formula f =
        record {
          style_is = h.style_is;
          table_good = h.table_good;
          indexed =
              record {
                tables = sound_tables table client h.table_good h.client_good;
                ours = rw b.ours_is (index_in_front (character_records table) (drop index_words i));
                client = rw b.theirs_is (index_in_front (client_records client) (drop index_words j));
              };
          readable = f.readable;
          short = f.small;
          tree_is = f.is;
          result_is = read_is no_sides style table client lent formula s h.style_is h.table_good h.client_good h.words_enough _ f.is;
        }

-- ---- the walk

module _ (s : Style) (table client formula : List ℕ) where
  abbrev F : Font
  F = font_with table client

  abbrev tree : Items
  tree = tree_of formula

  pub missing_examined : (place : ℕ) → missing_items F s tree ≡ some place →
      Refuses (Missing place) (read_result s table client formula)
  missing_examined place e =
      record { number = missing_number; place = place; result_is = missing_refused no_sides F s tree place e; answer_is = refl }

  module _ (bytes : ℕ) (c : lines.Line) (w : ListWhole F no_sides s tree bytes c) where
    fits_is : list_fits F no_sides s tree ≡ line_fits c
    unfolding list_fits
    fits_is = sym (line_fits_lem w)

    pub whole_examined : line_fits c ≡ true →
        Examined s (record { ours = table; client = client }) formula (Ok (record { style = s; accepted = record { size = c.size; count = c.run.count } }))
    whole_examined whole =
        let items : items_fit F s tree ≡ true = ((and-eq-true_iff (box_fits (set_list F no_sides s tree)) _).0 (sym (line_fits_lem w) ∙ whole)).1 in (
          refl,
          record {
            none_missing = w.present;
            fits = items;
            result_is = box_is no_sides F s tree w.present (fits_is ∙ whole);
            size_is = w.size_is items;
            count_is = (w.run_is items).count_is;
          },
        )

    pub large_examined : line_fits c ≡ false → Refuses TooLarge (read_result s table client formula)
    large_examined large =
        record { number = too_large_number; place = 0; result_is = large_refused no_sides F s tree w.present (fits_is ∙ large); answer_is = refl }

module _ (style : ℕ) (table client : List ℕ) (lent : Lent) (formula i j : List ℕ) (s : Style) (g : Reads style table client lent formula i j s) where
  pub examined_found : (r : Result Found Refusal) → Examined s (record { ours = table; client = client }) formula r → FoundOf style table client lent formula i j r
  examined_found (Ok f) h = (rw h.0 g, rw h.0 h.1)
  examined_found (Err r) h =
      record { number = h.number; place = h.place; result_is = g.result_is ∙ h.result_is; answer_is = h.answer_is }
