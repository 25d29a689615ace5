-- What becomes of the words that a call is lent (change request 9), of a formula and of a list between any two sides.
--     index_in_front                an index is what the words start with where it is built
--     Few, enough_words, enough_is, few_is, is_few     240 words are enough, and fewer of either are not
--     early, WordsAfter             the refusals before the formula is read, and what an answer of some number leaves of the words for the
--                                   index of some records
--     result_early                  an answer is one of these refusals exactly where its call builds no index
--     measuring_leaves              measuring leaves the words for both indexes so
-- Assumes nothing.
use Rattle.std.specs.Prelude.{◌≡◌, Bool, ◌&&◌, ◌||◌, List, ◌++◌, ◌⊎◌, ℕ, ◌≤◌, ◌<◌, leb, eqb, length, drop}
use Rattle.std.proofs.Math.Path.{refl}
use Rattle.std.proofs.Common.{sym, ap, ◌∙◌, true≢false, inl, inr, take_at, drop_at, length-take-le, leb-true, leb-false, le-leb}
use Rattle.std.proofs.Math.Bool.{true, false, not, and-false, and-eq-true_iff}
use Rattle.std.proofs.Math.Option.{Option, none, some}
use Rattle.std.proofs.Math.Seq.{length_front}
use Rattle.std.proofs.lemmas.Bool.{lt-leb}
use Rattle.font.specs.Records.{character_records, client_records}
use Rattle.font.specs.Table.{good_table, good_client}
use Rattle.font.specs.Font.{Font, font_with}
use Rattle.font_index.specs.Index.{index_words, index_of, Indexes}
use Rattle.font_index.specs.IndexLaws.{index_length}
use Rattle.formula.specs.declared.Fault.TheVariants.{Unreadable, TooDeep}
use Rattle.formula.specs.Tree.{Items}
use Rattle.formula.specs.Reading.{Read, good, fault, read_formula}
use Rattle.boxes.specs.declared.styles.Style.{Style}
use Rattle.boxes.specs.Styles.{style_of}
use Rattle.setting.specs.Setting.{Box, Sides, set_list}
use Rattle.setting.specs.Missing.{missing_items}
use Rattle.setting.specs.Fitting.{list_fits}
use Rattle.answers.specs.Lent.{Lent, lent_of, enough, has_style, builds, built_if, index_after, client_index_after}
use Rattle.answers.specs.Answers.{Result, boxed, refused, accepted_number, style_number, table_number, client_number, index_number, if_fits, if_present, if_read, if_enough, if_client, if_good, if_style, result_between, measured_by, measured_between}

-- ---- an index, and words enough for it

pub index_in_front : (l : List (List ℕ)) (words : List ℕ) → Indexes (index_of l ++ words) l
index_in_front l words = record { front = take_at (index_of l) words index_words (index_length l) }

pub enough_words : (lent : Lent) → enough lent ≡ true → (index_words ≤ lent.ours) × (index_words ≤ lent.client)
unfolding enough
enough_words lent e =
    let both = (and-eq-true_iff (leb index_words lent.ours) _).0 e in
    (leb-true index_words lent.ours both.0, leb-true index_words lent.client both.1)

pub enough_is : (lent : Lent) → index_words ≤ lent.ours → index_words ≤ lent.client → enough lent ≡ true
unfolding enough
enough_is lent ours theirs = rw (le-leb index_words lent.ours ours, le-leb index_words lent.client theirs) refl

abbrev pub Few : Lent → Type 0
Few lent = (lent.ours < index_words) ⊎ (lent.client < index_words)

pub few_is : (lent : Lent) → Few lent → enough lent ≡ false
unfolding enough
few_is lent (inl h) = ap (λ (t : Bool). t && leb index_words lent.client) (lt-leb index_words lent.ours h)
few_is lent (inr h) = ap (λ (t : Bool). leb index_words lent.ours && t) (lt-leb index_words lent.client h) ∙ and-false (leb index_words lent.ours)

pub is_few : (lent : Lent) → enough lent ≡ false → Few lent
unfolding enough
is_few lent e = go (leb index_words lent.ours) refl e
  where
    go : (t : Bool) → leb index_words lent.ours ≡ t → t && leb index_words lent.client ≡ false → Few lent
    go true is h = inr (leb-false index_words lent.client h)
    go false is h = inl (leb-false index_words lent.ours is)

built_words : (style : ℕ) (table client : List ℕ) (lent : Lent) → builds style table client lent ≡ true →
    (index_words ≤ lent.ours) × (index_words ≤ lent.client)
unfolding builds
built_words style table client lent e =
    let tables = ((and-eq-true_iff (has_style (style_of style)) _).0 e).1 in
    let theirs = ((and-eq-true_iff (good_table table) _).0 tables).1 in
    enough_words lent ((and-eq-true_iff (good_client table client) _).0 theirs).1

-- ---- the number of an answer, and whether its call builds

unfoldable pub early : ℕ → Bool
early n = eqb n style_number || (eqb n table_number || (eqb n client_number || eqb n index_number))

unfoldable pub found_number : Result → ℕ
found_number (boxed b) = accepted_number
found_number (refused number place) = number

-- what is read gets no early answer
fits_late : (t : Bool) (b : Box) → early (found_number (if_fits t b)) ≡ false
unfolding if_fits found_number early
fits_late true b = refl
fits_late false b = refl

module _ (sides : Sides) where
  module _ (F : Font) (s : Style) where
    present_late : (l : Items) (m : Option ℕ) → early (found_number (if_present F sides s l m)) ≡ false
    unfolding if_present found_number early
    present_late l none = fits_late (list_fits F sides s l) (set_list F sides s l)
    present_late l (some place) = refl

    pub read_late : (r : Read) → early (found_number (if_read F sides s r)) ≡ false
    unfolding if_read found_number early
    read_late (good l) = present_late l (missing_items F s l)
    read_late (fault Unreadable place) = refl
    read_late (fault TooDeep place) = refl

    good_early : (r : Read) (t c w : Bool) → early (found_number (if_good t c w F sides s r)) ≡ not (t && (c && w))
    unfolding if_good if_client if_enough found_number early
    good_early r true true true = read_late r
    good_early r true true false = refl
    good_early r true false w = refl
    good_early r false c w = refl

  pub result_early : (style : ℕ) (table client : List ℕ) (lent : Lent) (formula : List ℕ) →
      early (found_number (result_between sides style table client lent formula)) ≡ not (builds style table client lent)
  unfolding result_between if_style found_number early builds
  result_early style table client lent formula = go (style_of style)
    where
      go : (o : Option Style) →
          early (found_number (if_style sides table client lent (read_formula formula) o))
          ≡ not (has_style o && (good_table table && (good_client table client && enough lent)))
      go none = refl
      go (some s) =
          good_early (font_with table client) s (read_formula formula) (good_table table) (good_client table client) (enough lent)

-- measuring gives the number that is found
pub measured_number : (r : Result) → found_number r ≡ (measured_by r).number
unfolding measured_by found_number
measured_number (boxed b) = refl
measured_number (refused number place) = refl

-- ---- the words after a call

pub record WordsAfter (number : ℕ) (l : List (List ℕ)) (before after : List ℕ) : Type 0 where
  pub unchanged : early number ≡ true → after ≡ before
  pub rest_kept : drop index_words after ≡ drop index_words before
  pub built : early number ≡ false → Indexes after l
  pub same_length : length after ≡ length before

built_by : (number : ℕ) (b : Bool) (l : List (List ℕ)) (words : List ℕ) → early number ≡ not b → (b ≡ true → index_words ≤ length words) →
    WordsAfter number l words (built_if b l words)
unfolding built_if
built_by number true l words e enough =
    record {
      unchanged = λ h. absurd (true≢false (sym h ∙ e));
      rest_kept = drop_at (index_of l) (drop index_words words) index_words (index_length l);
      built = λ h. index_in_front l (drop index_words words);
      same_length = length_front words (index_of l) index_words (index_length l ∙ sym (length-take-le index_words words (enough refl)));
    }
built_by number false l words e enough =
    record {
      unchanged = λ h. refl;
      rest_kept = refl;
      built = λ h. absurd (true≢false (sym e ∙ h));
      same_length = refl;
    }

-- after a call with an answer of this number, for both indexes
pub record WordsLeft (number style : ℕ) (table client i j : List ℕ) : Type 0 where
  pub index_left : WordsAfter number (character_records table) i (index_after style table client i j)
  pub client_index_left : WordsAfter number (client_records client) j (client_index_after style table client i j)

pub left_by : (number style : ℕ) (table client i j : List ℕ) → early number ≡ not (builds style table client (lent_of i j)) →
    WordsLeft number style table client i j
left_by number style table client i j e =
    record {
      index_left = built_by number _ (character_records table) i e (λ h. (built_words style table client (lent_of i j) h).0);
      client_index_left = built_by number _ (client_records client) j e (λ h. (built_words style table client (lent_of i j) h).1);
    }

module _ (sides : Sides) (style : ℕ) (table client i j formula : List ℕ) where
  pub measuring_leaves : WordsLeft (measured_between sides style table client (lent_of i j) formula).number style table client i j
  unfolding measured_between
  measuring_leaves =
      left_by _ style table client i j
      (ap early (sym (measured_number (result_between sides style table client (lent_of i j) formula))) ∙ result_early sides style table client (lent_of i j) formula)
