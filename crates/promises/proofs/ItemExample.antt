-- Items on the page at work, in the bench table and the style T.
--     behind_style    a^{a} behind a style change to D is the item at 3, in the style D; asked about, it stands on the page with its
--                     superscript 420 above its baseline, σ13 of D, and not 370 as in T
--     in_list_lem         P8, f with two scripts, in a list that is a nucleus, is the item at 7, in the style T, and keeps its clearances
-- Assumes nothing.
use Rattle.std.specs.Prelude.{◌≡◌, refl, List, [], ◌∷◌, ◌++◌, ℕ, pos}
use Rattle.font.specs.Font.{font_with}
use Rattle.formula.specs.declared.Class.TheVariants.{Ord}
use Rattle.formula.specs.declared.Limits.TheVariants.{DisplayOnly}
use Rattle.formula.specs.declared.Base.TheVariants.{Atom}
use Rattle.formula.specs.declared.Kind.{Kind}
use Rattle.formula.specs.declared.Kind.TheVariants.{Scripted}
use Rattle.boxes.specs.declared.styles.Level.TheVariants.{Display, Text}
use Rattle.boxes.specs.Styles.{plain}
use Rattle.nodes.specs.Nodes.{Node}
use Rattle.answers.specs.Answers.{accepted_number, setting}
use Rattle.answers.specs.Why.{why_of}
use Rattle.promises.proofs.BenchTable.{just_enough, bench_table}
use Rattle.promises.proofs.Definitions.{definitions}
use Rattle.promises.specs.ListFields.{list_field, first, past_style, in_list, in_one, own}
use Rattle.promises.specs.ItemsOnPage.{ItemSetAt, outermost, in_field, item_read, ItemStands}
use Rattle.promises.proofs.ItemsOnPage.{item_stands}
use Rattle.promises.proofs.Clearances.{ItemKeeps, clearances}
use Rattle.promises.proofs.WhyLaws.{WhyOnPage, why_on_page}

abbrev T : ℕ
T = 2

abbrev ord : Kind
ord = Scripted (Atom Ord DisplayOnly)

-- ---- behind a style change

abbrev scripted : List ℕ
scripted = 65 ∷ 84 ∷ 0 ∷ 0 ∷ 1 ∷ 1 ∷ 97 ∷ 1 ∷ 1 ∷ 97 ∷ 0 ∷ []

abbrev styled : List ℕ
styled = 83 ∷ 84 ∷ 0 ∷ scripted

styled_accepted : (setting T bench_table [] just_enough styled 36).number ≡ accepted_number
unfolding definitions bench_table
styled_accepted = refl

styled_at : ItemSetAt (plain Text) styled 3 (plain Display) scripted
unfolding definitions
styled_at = outermost (in_list (past_style 0 0 refl refl first))

pub behind_style : ItemStands T bench_table [] just_enough styled (plain Text) 3 (item_read (plain Display) scripted ord)
unfolding definitions
behind_style = item_stands T bench_table [] just_enough styled 36 styled_accepted (plain Text) refl 3 (plain Display) scripted styled_at ord refl

styled_asked : (why_of T bench_table [] just_enough styled 3).number ≡ accepted_number
unfolding definitions bench_table
styled_asked = refl

pub styled_up : (why_of T bench_table [] just_enough styled 3).reasons.up.shift ≡ pos 420
unfolding definitions bench_table
styled_up = refl

pub behind_style_why : WhyOnPage T bench_table [] just_enough styled 3 (why_of T bench_table [] just_enough styled 3).reasons
behind_style_why = why_on_page T bench_table [] just_enough styled 3 styled_asked

-- ---- in a list

abbrev pair : List ℕ
pair = 65 ∷ 84 ∷ 0 ∷ 0 ∷ 1 ∷ 1 ∷ 102 ∷ 1 ∷ 1 ∷ 97 ∷ 1 ∷ 1 ∷ 97 ∷ []

abbrev listed : List ℕ
listed = 65 ∷ 84 ∷ 0 ∷ 0 ∷ 2 ∷ 13 ∷ 0 ∷ (pair ++ (0 ∷ 0 ∷ []))

listed_accepted : (setting T bench_table [] just_enough listed 54).number ≡ accepted_number
unfolding definitions bench_table
listed_accepted = refl

listed_at : ItemSetAt (plain Text) listed 7 (plain Text) pair
unfolding definitions
listed_at =
    in_field
    (own (record {
      item_place = 0;
      item_style_lem = plain Text;
      item = listed;
      is_set = in_list first;
      kind = ord;
      opens = refl;
      field_place_lem = 4;
      in_item = in_one;
      place_is = refl;
      is_list_lem = list_field 13 0 (pair ++ (0 ∷ 0 ∷ []));
    }))
    (in_list first)

pub in_list_lem : (nodes : List Node) × ItemKeeps (font_with bench_table []) (item_read (plain Text) pair ord) nodes
unfolding definitions
in_list_lem =
    let c = clearances T bench_table [] just_enough listed 54 listed_accepted (plain Text) refl in
    (c.nodes, c.items 7 (plain Text) pair listed_at ord refl)
