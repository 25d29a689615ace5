-- The answers of a list between two sides, a law for each way that it goes. A formula is a list without sides.
--     no_style, bad_table, bad_client, few_words, read_is     the tests before the setting
--     missing_refused, box_is, large_refused           what is found of a tree
--     measured_boxed, set_boxed, buffer_boxed          what measuring and setting make of a box, where there is room
--     no_room_is                                       what setting makes of it where there is none
--     measured_refused, refused_is                     what they make of a refusal
-- Assumes nothing.
use Rattle.std.specs.Prelude.{◌≡◌, Bool, List, ◌++◌, ℕ, ◌*◌, ◌≤◌, ◌<◌, drop}
use Rattle.std.proofs.Math.Path.{refl, ap, ap₂}
use Rattle.std.proofs.Common.{sym, ◌∙◌}
use Rattle.std.proofs.Math.Bool.{true, false}
use Rattle.std.proofs.Math.Option.{none, some}
use Rattle.std.proofs.Math.ListN.{length}
use borrow.Author.Tests.{le-leb, lt-leb}
use Rattle.font.specs.Table.{good_table, good_client}
use Rattle.font.specs.Font.{Font, font_with}
use Rattle.formula.specs.Tree.{Items}
use Rattle.formula.specs.Reading.{Read, read_formula}
use Rattle.boxes.specs.declared.styles.Style.{Style}
use Rattle.boxes.specs.Styles.{style_of}
use Rattle.nodes.specs.Nodes.{bytes_of, bytes_in_node}
use Rattle.setting.specs.Setting.{Box, Sides, set_list}
use Rattle.setting.specs.Missing.{missing_items}
use Rattle.setting.specs.Fitting.{list_fits}
use Rattle.answers.specs.Lent.{Lent, enough}
use Rattle.answers.specs.Answers.{boxed, refused, style_number, table_number, client_number, index_number, missing_number, too_large_number, no_room_number, if_fits, if_present, if_read, if_enough, if_client, if_good, if_style, result_between, accepted, refusal, measured_by, measured_between, has_room, set_by, setting_between, buffer_by, buffer_between}

-- ---- the tests before the setting

module _ (sides : Sides) (style : ℕ) (table client : List ℕ) (lent : Lent) (formula : List ℕ) where
  pub no_style : style_of style ≡ none → result_between sides style table client lent formula ≡ refused style_number 0
  unfolding result_between if_style
  no_style e = ap (if_style sides table client lent (read_formula formula)) e

  module _ (s : Style) (is : style_of style ≡ some s) where
    pub tested_is : (t c w : Bool) (r : Read) → good_table table ≡ t → good_client table client ≡ c → enough lent ≡ w → read_formula formula ≡ r →
        result_between sides style table client lent formula ≡ if_good t c w (font_with table client) sides s r
    unfolding result_between if_style
    tested_is t c w r ours theirs words reads =
        let F = font_with table client in
        ap (if_style sides table client lent (read_formula formula)) is
        ∙ ap₂ (λ (t c : Bool). if_good t c (enough lent) F sides s (read_formula formula)) ours theirs
        ∙ ap₂ (λ (w : Bool) (r : Read). if_good t c w F sides s r) words reads

    pub bad_table : good_table table ≡ false → result_between sides style table client lent formula ≡ refused table_number 0
    unfolding if_good
    bad_table bad = tested_is false _ _ _ bad refl refl refl

    module _ (good : good_table table ≡ true) where
      pub bad_client : good_client table client ≡ false → result_between sides style table client lent formula ≡ refused client_number 0
      unfolding if_good if_client
      bad_client bad = tested_is true false _ _ good bad refl refl

      module _ (fine : good_client table client ≡ true) where
        pub few_words : enough lent ≡ false → result_between sides style table client lent formula ≡ refused index_number 0
        unfolding if_good if_client if_enough
        few_words few = tested_is true true false _ good fine few refl

        pub read_is : enough lent ≡ true → (r : Read) → read_formula formula ≡ r →
            result_between sides style table client lent formula ≡ if_read (font_with table client) sides s r
        unfolding if_good if_client if_enough
        read_is words r reads = tested_is true true true r good fine words reads

-- ---- what is found of a tree

module _ (sides : Sides) (F : Font) (s : Style) (l : Items) where
  pub missing_refused : (place : ℕ) → missing_items F s l ≡ some place →
      if_present F sides s l (missing_items F s l) ≡ refused missing_number place
  unfolding if_present
  missing_refused place e = ap (if_present F sides s l) e

  module _ (present : missing_items F s l ≡ none) where
    weighed_is : (t : Bool) → list_fits F sides s l ≡ t → if_present F sides s l (missing_items F s l) ≡ if_fits t (set_list F sides s l)
    unfolding if_present
    weighed_is t e = ap (if_present F sides s l) present ∙ ap (λ (t : Bool). if_fits t (set_list F sides s l)) e

    pub box_is : list_fits F sides s l ≡ true → if_present F sides s l (missing_items F s l) ≡ boxed (set_list F sides s l)
    unfolding if_fits
    box_is e = weighed_is true e

    pub large_refused : list_fits F sides s l ≡ false → if_present F sides s l (missing_items F s l) ≡ refused too_large_number 0
    unfolding if_fits
    large_refused e = weighed_is false e

-- ---- what is made of a box, by the count that measuring gives

module _ (sides : Sides) (style : ℕ) (table client : List ℕ) (lent : Lent) (formula : List ℕ) (b : Box) (is : result_between sides style table client lent formula ≡ boxed b) where
  pub measured_boxed : measured_between sides style table client lent formula ≡ accepted b
  unfolding measured_between measured_by
  measured_boxed = ap measured_by is

  room_is : (bytes : ℕ) → bytes_in_node * (measured_between sides style table client lent formula).count ≤ bytes → has_room bytes b ≡ true
  unfolding has_room
  room_is bytes h = le-leb (bytes_in_node * length b.nodes) bytes (rw measured_boxed at h)

  pub set_boxed : (room : ℕ) → bytes_in_node * (measured_between sides style table client lent formula).count ≤ room →
      setting_between sides style table client lent formula room ≡ measured_between sides style table client lent formula
  unfolding setting_between set_by
  set_boxed room h = ap (set_by room) is ∙ rw (room_is room h, set_by) (sym measured_boxed)

  pub buffer_boxed : (buffer : List ℕ) →
      let bytes = bytes_in_node * (measured_between sides style table client lent formula).count in
      bytes ≤ length buffer → buffer_between sides style table client lent formula buffer ≡ bytes_of b.nodes ++ drop bytes buffer
  unfolding buffer_between buffer_by
  buffer_boxed buffer h =
      ap (buffer_by buffer) is ∙ rw (room_is (length buffer) h, buffer_by) (rw measured_boxed refl)

  lacks_room : (bytes : ℕ) → bytes < bytes_in_node * (measured_between sides style table client lent formula).count → has_room bytes b ≡ false
  unfolding has_room
  lacks_room bytes h = lt-leb (bytes_in_node * length b.nodes) bytes (rw measured_boxed at h)

  pub no_room_is : (buffer : List ℕ) → length buffer < bytes_in_node * (measured_between sides style table client lent formula).count →
      (setting_between sides style table client lent formula (length buffer) ≡ refusal no_room_number 0) × (buffer_between sides style table client lent formula buffer ≡ buffer)
  unfolding setting_between set_by buffer_between buffer_by
  no_room_is buffer h =
      let lacks = lacks_room (length buffer) h in
      (ap (set_by (length buffer)) is ∙ rw (lacks, set_by) refl, ap (buffer_by buffer) is ∙ rw (lacks, buffer_by) refl)

-- ---- what is made of a refusal

module _ (sides : Sides) (style : ℕ) (table client : List ℕ) (lent : Lent) (formula : List ℕ) (number place : ℕ)
    (is : result_between sides style table client lent formula ≡ refused number place) where
  pub measured_refused : measured_between sides style table client lent formula ≡ refusal number place
  unfolding measured_between measured_by
  measured_refused = ap measured_by is

  pub refused_is : (buffer : List ℕ) →
      (setting_between sides style table client lent formula (length buffer) ≡ refusal number place) × (buffer_between sides style table client lent formula buffer ≡ buffer)
  unfolding setting_between set_by buffer_between buffer_by
  refused_is buffer = (ap (set_by (length buffer)) is, ap (buffer_by buffer) is)
