-- What measuring and setting answer, for any bytes (document 01, "Answer numbers, in the order they are tested"), and the
-- node buffer after setting. The words that are lent are in `Lent`. A formula has no neighbours. The list of a fence, taken by itself, has two (change request 4), so that the
-- answers are defined of a list between two sides (`result_between`), and those of a formula are the ones without (`result_of`).
-- Assumes nothing.
use Rattle.std.specs.Prelude.{Bool, true, false, List, ◌++◌, ℕ, ◌*◌, leb, length, drop}
use Rattle.std.proofs.Math.Option.{Option, none, some}
use Rattle.font.specs.Table.{good_table, good_client}
use Rattle.font.specs.Font.{Font, font_with}
use Rattle.formula.specs.declared.Fault.{Fault}
use Rattle.formula.specs.declared.Fault.TheVariants.{Unreadable, TooDeep}
use Rattle.formula.specs.Tree.{Items}
use Rattle.formula.specs.Reading.{Read, good, fault, read_formula}
use Rattle.boxes.specs.declared.styles.Style.{Style}
use Rattle.boxes.specs.Styles.{style_of}
use Rattle.boxes.specs.Boxes.{Size, zero_size}
use Rattle.nodes.specs.Nodes.{bytes_of, bytes_in_node}
use Rattle.setting.specs.Setting.{Box, Sides, no_sides, set_list}
use Rattle.setting.specs.Missing.{missing_items}
use Rattle.setting.specs.Fitting.{list_fits}
use Rattle.answers.specs.Lent.{Lent, enough}

-- ---- the answer numbers

abbrev pub accepted_number : ℕ
accepted_number = 0

abbrev pub style_number : ℕ
style_number = 1

abbrev pub table_number : ℕ
table_number = 2

-- the faults of the reading
abbrev pub fault_number : Fault → ℕ
fault_number Unreadable = 3
fault_number TooDeep = 4

abbrev pub missing_number : ℕ
missing_number = 5

abbrev pub too_large_number : ℕ
too_large_number = 6

abbrev pub no_room_number : ℕ
no_room_number = 7

-- tested right after the table
abbrev pub client_number : ℕ
client_number = 8

-- tested right after the client's table
abbrev pub index_number : ℕ
index_number = 19

-- ---- what is found: the box, or the number and place of the refusal

pub data Result : Type 0 where
  boxed : Box → Result
  refused : ℕ → ℕ → Result

-- 6, and then the box
unfoldable pub if_fits : Bool → Box → Result
if_fits true b = boxed b
if_fits false b = refused too_large_number 0

-- 5
unfoldable pub if_present : Font → Sides → Style → Items → Option ℕ → Result
if_present F sides s l none = if_fits (list_fits F sides s l) (set_list F sides s l)
if_present F sides s l (some place) = refused missing_number place

-- 3 and 4
unfoldable pub if_read : Font → Sides → Style → Read → Result
if_read F sides s (good l) = if_present F sides s l (missing_items F s l)
if_read F sides s (fault why place) = refused (fault_number why) place

-- 19
unfoldable pub if_enough : Bool → Font → Sides → Style → Read → Result
if_enough true F sides s r = if_read F sides s r
if_enough false F sides s r = refused index_number 0

-- 8
unfoldable pub if_client : Bool → Bool → Font → Sides → Style → Read → Result
if_client true words F sides s r = if_enough words F sides s r
if_client false words F sides s r = refused client_number 0

-- 2
unfoldable pub if_good : Bool → Bool → Bool → Font → Sides → Style → Read → Result
if_good true client words F sides s r = if_client client words F sides s r
if_good false client words F sides s r = refused table_number 0

-- 1
unfoldable pub if_style : Sides → List ℕ → List ℕ → Lent → Read → Option Style → Result
if_style sides table client lent r none = refused style_number 0
if_style sides table client lent r (some s) =
    if_good (good_table table) (good_client table client) (enough lent) (font_with table client) sides s r

unfoldable pub result_between : Sides → ℕ → List ℕ → List ℕ → Lent → List ℕ → Result
result_between sides style table client lent formula = if_style sides table client lent (read_formula formula) (style_of style)

abbrev pub result_of : ℕ → List ℕ → List ℕ → Lent → List ℕ → Result
result_of style table client lent formula = result_between no_sides style table client lent formula

-- ---- the answers

pub record Answered : Type 0 where
  pub number : ℕ
  pub place : ℕ
  pub size : Size
  pub count : ℕ

-- every refusal has sizes 0 and count 0
abbrev pub refusal : ℕ → ℕ → Answered
refusal number place = record { number = number; place = place; size = zero_size; count = 0 }

abbrev pub accepted : Box → Answered
accepted b = record { number = accepted_number; place = 0; size = b.size; count = length b.nodes }

unfoldable pub measured_by : Result → Answered
measured_by (boxed b) = accepted b
measured_by (refused number place) = refusal number place

unfoldable pub measured_between : Sides → ℕ → List ℕ → List ℕ → Lent → List ℕ → Answered
measured_between sides style table client lent formula = measured_by (result_between sides style table client lent formula)

abbrev pub measured : ℕ → List ℕ → List ℕ → Lent → List ℕ → Answered
measured style table client lent formula = measured_between no_sides style table client lent formula

-- 7: whether a buffer of this many bytes has room for the nodes of a box
unfoldable pub has_room : ℕ → Box → Bool
has_room room b = leb (bytes_in_node * length b.nodes) room

unfoldable pub set_by : ℕ → Result → Answered
set_by room (boxed b) = elim (has_room room b) [ true ↦ accepted b | false ↦ refusal no_room_number 0 ]
set_by room (refused number place) = refusal number place

unfoldable pub setting_between : Sides → ℕ → List ℕ → List ℕ → Lent → List ℕ → ℕ → Answered
setting_between sides style table client lent formula room = set_by room (result_between sides style table client lent formula)

abbrev pub setting : ℕ → List ℕ → List ℕ → Lent → List ℕ → ℕ → Answered
setting style table client lent formula room = setting_between no_sides style table client lent formula room

-- an acceptance writes the nodes at the buffer's front, a refusal nothing
unfoldable pub buffer_by : List ℕ → Result → List ℕ
buffer_by buffer (boxed b) =
    elim (has_room (length buffer) b) [
      | true ↦ bytes_of b.nodes ++ drop (bytes_in_node * length b.nodes) buffer
      | false ↦ buffer
    ]
buffer_by buffer (refused number place) = buffer

unfoldable pub buffer_between : Sides → ℕ → List ℕ → List ℕ → Lent → List ℕ → List ℕ → List ℕ
buffer_between sides style table client lent formula buffer = buffer_by buffer (result_between sides style table client lent formula)

abbrev pub buffer_after : ℕ → List ℕ → List ℕ → Lent → List ℕ → List ℕ → List ℕ
buffer_after style table client lent formula buffer = buffer_between no_sides style table client lent formula buffer
