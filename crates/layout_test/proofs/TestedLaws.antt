-- From what the tests find to the answers of the definition, a law for each way out of them. Assumes nothing.
use mathlib.Core.Path.{◌≡◌, refl}
use mathlib.Core.Bool.{true, false}
use mathlib.Core.List.{List}
use mathlib.Core.Option.{none, some}
use Prim.Native.Nat.{ℕ, ◌≤◌}
use Rattle.font.specs.Table.{good_table, good_client}
use Rattle.font_index.specs.Index.{index_words}
use Rattle.boxes.specs.declared.styles.Style.{Style}
use Rattle.boxes.specs.Styles.{style_of}
use Rattle.setting.specs.Setting.{no_sides}
use Rattle.answers.specs.Lent.{Lent}
use Rattle.answers.specs.Answers.{style_number, table_number, client_number, index_number}
use Rattle.answers.proofs.AnswersLaws.{no_style, bad_table, bad_client, few_words}
use Rattle.answers.proofs.LentLaws.{enough_is, Few, few_is, early}
use Rattle.layout_answers.specs.declared.Refusal.TheVariants.{NoStyle, BadTable, BadClient, FewWords}
use Rattle.layout_test.specs.Tested.{Passes, Stops}

module _ (style : ℕ) (table client : List ℕ) (lent : Lent) where
  pub no_style_stops : style_of style ≡ none → Stops style table client lent NoStyle
  unfolding early
  no_style_stops e =
      record { number = style_number; is_early = refl; result_is = λ f. no_style no_sides style table client lent f e; answer_is = refl }

  module _ (s : Style) (is : style_of style ≡ some s) where
    pub table_stops : good_table table ≡ false → Stops style table client lent BadTable
    unfolding early
    table_stops e =
        record { number = table_number; is_early = refl; result_is = λ f. bad_table no_sides style table client lent f s is e; answer_is = refl }

    module _ (good : good_table table ≡ true) where
      pub client_stops : good_client table client ≡ false → Stops style table client lent BadClient
      unfolding early
      client_stops e =
          record {
            number = client_number;
            is_early = refl;
            result_is = λ f. bad_client no_sides style table client lent f s is good e;
            answer_is = refl;
          }

      module _ (fine : good_client table client ≡ true) where
        pub words_stop : Few lent → Stops style table client lent FewWords
        unfolding early
        words_stop few =
            record {
              number = index_number;
              is_early = refl;
              result_is = λ f. few_words no_sides style table client lent f s is good fine (few_is lent few);
              answer_is = refl;
            }

        pub all_pass : index_words ≤ lent.ours → index_words ≤ lent.client → Passes style table client lent s
        all_pass ours theirs =
            record { style_is = is; table_good = good; client_good = fine; words_enough = enough_is lent ours theirs }
