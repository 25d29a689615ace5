-- What is found of a formula before any node of it is written.
--     Refuses             a refusal
--     read_result          the result for a formula that reads, in a style that there is
--     Reads, Boxes        a formula that the walk may take, with both indexes, and one that is accepted
--     FoundOf, Examined     what `find` and the function below it find
-- Assumes nothing.
use Rattle.std.specs.Prelude.{◌≡◌, true, false, List, ℕ, ◌≤◌, length, Result, Ok, Err}
use Rattle.std.proofs.Math.Option.{none, some}
use Rattle.font.specs.Table.{good_table}
use Rattle.font.specs.Font.{Tables, font_with}
use Rattle.font_index.specs.Index.{Indexed}
use Rattle.formula.specs.Format.{formula_limit}
use Rattle.formula.specs.Reading.{good, read_formula}
use Rattle.formula.specs.Places.{Readable, tree_of}
use Rattle.boxes.specs.declared.styles.Style.{Style}
use Rattle.boxes.specs.declared.Size.{Size}
use Rattle.boxes.specs.Styles.{style_of}
use Rattle.boxes.specs.Values.{size_as}
use Rattle.setting.specs.Setting.{no_sides, set_list}
use Rattle.setting.specs.Missing.{missing_items}
use Rattle.setting.specs.Fitting.{items_fit}
use Rattle.answers.specs.Lent.{Lent}
use Rattle.answers.specs.Answers.{refusal, Result as Answer, boxed, refused, if_present, result_of}
use Rattle.layout_answers.specs.declared.Refusal.{Refusal}
use Rattle.layout_answers.specs.Values.{refusal_as}
use Rattle.layout_find.specs.declared.Found.{Found}

pub record Refuses (a : Refusal) (r : Answer) : Type 0 where
  pub number : ℕ
  pub place : ℕ
  pub result_is : r ≡ refused number place
  pub answer_is : refusal_as a ≡ refusal number place

abbrev pub read_result : Style → List ℕ → List ℕ → List ℕ → Answer
read_result s table client formula =
    if_present (font_with table client) no_sides s (tree_of formula) (missing_items (font_with table client) s (tree_of formula))

-- a formula that reads, in a style that there is, and tables that break no rule, with the indexes i and j
pub record Reads (style : ℕ) (table client : List ℕ) (lent : Lent) (formula i j : List ℕ) (s : Style) : Type 0 where
  pub style_is : style_of style ≡ some s
  pub table_good : good_table table ≡ true
  pub indexed : Indexed table client i j
  pub readable : Readable formula
  pub short : length formula ≤ formula_limit
  pub tree_is : read_formula formula ≡ good (tree_of formula)
  pub result_is : result_of style table client lent formula ≡ read_result s table client formula

-- a formula in the style s that is accepted, with the size z and n nodes
pub record Boxes (s : Style) (table client formula : List ℕ) (z : Size) (n : ℕ) : Type 0 where
  pub none_missing : missing_items (font_with table client) s (tree_of formula) ≡ none
  pub fits : items_fit (font_with table client) s (tree_of formula) ≡ true
  pub result_is : read_result s table client formula ≡ boxed (set_list (font_with table client) no_sides s (tree_of formula))
  pub size_is : size_as z ≡ (set_list (font_with table client) no_sides s (tree_of formula)).size
  pub count_is : n ≡ length (set_list (font_with table client) no_sides s (tree_of formula)).nodes

abbrev pub Examined : Style → Tables → List ℕ → Result Found Refusal → Type 0
Examined s t formula (Ok f) = (f.style ≡ s) × Boxes s t.ours t.client formula f.accepted.size f.accepted.count
Examined s t formula (Err r) = Refuses r (read_result s t.ours t.client formula)

-- the lent words are i and j then
abbrev pub FoundOf : ℕ → List ℕ → List ℕ → Lent → List ℕ → List ℕ → List ℕ → Result Found Refusal → Type 0
FoundOf style table client lent formula i j (Ok f) =
    Reads style table client lent formula i j f.style × Boxes f.style table client formula f.accepted.size f.accepted.count
FoundOf style table client lent formula i j (Err r) = Refuses r (result_of style table client lent formula)
