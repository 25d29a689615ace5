-- What the tests before the reading find: the style (`Passes`), or a refusal of any formula (`Stops`).
-- Assumes nothing.
use Rattle.std.specs.Prelude.{◌≡◌, true, List, ℕ, Result, Ok, Err}
use Rattle.std.proofs.Math.Option.{some}
use Rattle.font.specs.Table.{good_table, good_client}
use Rattle.boxes.specs.declared.styles.Style.{Style}
use Rattle.boxes.specs.Styles.{style_of}
use Rattle.answers.specs.Lent.{Lent, enough}
use Rattle.answers.specs.Answers.{refusal, refused, result_of}
use Rattle.answers.proofs.LentLaws.{early}
use Rattle.layout_answers.specs.declared.Refusal.{Refusal}
use Rattle.layout_answers.specs.Values.{refusal_as}

pub record Passes (style : ℕ) (table client : List ℕ) (lent : Lent) (s : Style) : Type 0 where
  pub style_is : style_of style ≡ some s
  pub table_good : good_table table ≡ true
  pub client_good : good_client table client ≡ true
  pub words_enough : enough lent ≡ true

pub record Stops (style : ℕ) (table client : List ℕ) (lent : Lent) (r : Refusal) : Type 0 where
  pub number : ℕ
  pub is_early : early number ≡ true
  pub result_is : (formula : List ℕ) → result_of style table client lent formula ≡ refused number 0
  pub answer_is : refusal_as r ≡ refusal number 0

abbrev pub Tested : ℕ → List ℕ → List ℕ → Lent → Result Style Refusal → Type 0
Tested style table client lent (Ok s) = Passes style table client lent s
Tested style table client lent (Err r) = Stops style table client lent r
