-- Measuring and setting answer the same, but for refusal 7: setting refuses 7 exactly where measuring accepts and the buffer
-- is shorter than 18 bytes for each node counted, and answers as measuring does otherwise. For every style, table, client's
-- table, formula and number of bytes in the buffer; and so for a list between any two sides.
-- Assumes nothing.
use Rattle.std.specs.Prelude.{◌≡◌, refl, Bool, List, ℕ, ◌*◌, ◌<◌, length}
use Rattle.std.proofs.Math.Bool.{true, false}
use Rattle.std.proofs.Math.Option.{Option, none, some}
use native.Mathlib.Omega.{arith}
use Rattle.std.proofs.Common.{leb-true, leb-false}
use Rattle.font.specs.Table.{good_table, good_client}
use Rattle.font.specs.Font.{Font, font_with}
use Rattle.formula.specs.declared.Fault.TheVariants.{Unreadable, TooDeep}
use Rattle.formula.specs.Tree.{Items}
use Rattle.formula.specs.Reading.{Read, good, fault, read_formula}
use Rattle.boxes.specs.declared.styles.Style.{Style}
use Rattle.boxes.specs.Styles.{style_of}
use Rattle.nodes.specs.Nodes.{bytes_in_node}
use Rattle.setting.specs.Setting.{Box, Sides, no_sides, set_list}
use Rattle.setting.specs.Missing.{missing_items}
use Rattle.setting.specs.Fitting.{list_fits}
use Rattle.answers.specs.Lent.{Lent, enough}
use Rattle.answers.specs.Answers.{Result, boxed, refused, if_fits, if_present, if_read, if_enough, if_client, if_good, if_style, result_between, Answered, accepted, refusal, measured_by, measured, measured_between, has_room, set_by, setting, setting_between, accepted_number, no_room_number}

-- ---- a refusal before the test of room has neither the number of an acceptance nor that of this test

abbrev pub RefusedBefore : Result → Type 0
RefusedBefore (boxed b) = Unit {0}
RefusedBefore (refused number place) = (number ≡ accepted_number → ⊥) × (number ≡ no_room_number → ⊥)

fits_before : (t : Bool) (b : Box) → RefusedBefore (if_fits t b)
unfolding if_fits
fits_before true b = tt
fits_before false b = omega arith

module _ (sides : Sides) where
  present_before_lem : (F : Font) (s : Style) (l : Items) (m : Option ℕ) → RefusedBefore (if_present F sides s l m)
  unfolding if_present
  present_before_lem F s l none = fits_before (list_fits F sides s l) (set_list F sides s l)
  present_before_lem F s l (some place) = omega arith

  read_before : (F : Font) (s : Style) (r : Read) → RefusedBefore (if_read F sides s r)
  unfolding if_read
  read_before F s (good l) = present_before_lem F s l (missing_items F s l)
  read_before F s (fault Unreadable place) = omega arith
  read_before F s (fault TooDeep place) = omega arith

  good_before : (t c w : Bool) (F : Font) (s : Style) (r : Read) → RefusedBefore (if_good t c w F sides s r)
  unfolding if_good if_client if_enough
  good_before true true true F s r = read_before F s r
  good_before true true false F s r = omega arith
  good_before true false w F s r = omega arith
  good_before false c w F s r = omega arith

  style_before : (table client : List ℕ) (lent : Lent) (r : Read) (s : Option Style) → RefusedBefore (if_style sides table client lent r s)
  unfolding if_style
  style_before table client lent r none = omega arith
  style_before table client lent r (some s) = good_before (good_table table) (good_client table client) (enough lent) (font_with table client) s r

  pub result_before_lem : (style : ℕ) (table client : List ℕ) (lent : Lent) (formula : List ℕ) → RefusedBefore (result_between sides style table client lent formula)
  unfolding result_between
  result_before_lem style table client lent formula = style_before table client lent (read_formula formula) (style_of style)

-- ---- measuring and setting

-- measuring accepts, and the nodes it counts have no room
abbrev pub NoRoom : Answered → ℕ → Type 0
NoRoom m room = (m.number ≡ accepted_number) × (room < bytes_in_node * m.count)

pub record Agrees (m s : Answered) (room : ℕ) : Type 0 where
  -- setting refuses 7 where there is no room, and nowhere else
  pub refuses : NoRoom m room → s ≡ refusal no_room_number 0
  pub only : s.number ≡ no_room_number → NoRoom m room
  -- and answers as measuring does otherwise
  pub same : (s.number ≡ no_room_number → ⊥) → s ≡ m

by_room : (b : Box) (room : ℕ) (t : Bool) → has_room room b ≡ t → Agrees (accepted b) (elim t [ true ↦ accepted b | false ↦ refusal no_room_number 0 ]) room
unfolding has_room
by_room b room true e =
    record {
      refuses = λ h. absurd (omega (arith, leb-true (bytes_in_node * length b.nodes) room e));
      only = λ h. absurd (omega arith);
      same = λ h. refl;
    }
by_room b room false e =
    record {
      refuses = λ h. refl;
      only = λ h. (refl, leb-false (bytes_in_node * length b.nodes) room e);
      same = λ h. absurd (h refl);
    }

by_result : (r : Result) (room : ℕ) → RefusedBefore r → Agrees (measured_by r) (set_by room r) room
unfolding measured_by set_by
by_result (boxed b) room h = by_room b room (has_room room b) refl
by_result (refused number place) room h =
    record {
      refuses = λ k. absurd (omega arith);
      only = λ k. absurd (omega arith);
      same = λ k. refl;
    }

pub agree_between : (sides : Sides) (style : ℕ) (table client : List ℕ) (lent : Lent) (formula : List ℕ) (room : ℕ) →
    Agrees (measured_between sides style table client lent formula) (setting_between sides style table client lent formula room) room
unfolding measured_between setting_between
agree_between sides style table client lent formula room =
    by_result (result_between sides style table client lent formula) room (result_before_lem sides style table client lent formula)

pub measuring_and_setting_agree : (style : ℕ) (table client : List ℕ) (lent : Lent) (formula : List ℕ) (room : ℕ) →
    Agrees (measured style table client lent formula) (setting style table client lent formula room) room
measuring_and_setting_agree = agree_between no_sides
