-- What the setters of lists and of fields are given, and what they come to: the first missing symbol, or all of what they set
-- (`ItemsDone`, `ListDone`, `HeadDone`).
-- Of what passes the greatest length nothing is promised but that it does so, and how many nodes it has at most.
-- Whatever they come to, a missing symbol, something too large or too little room, a buffer keeps all but as many nodes as there are
-- bytes in what was to be set (`Kept`).
-- Assumes nothing.
use Rattle.std.specs.Prelude.{◌≡◌, Bool, true, not, ◌||◌, List, Result, Ok, Err, ℕ, ◌+◌, ◌-◌, ◌≤◌, length}
use Rattle.std.proofs.Math.Option.{none, some}
use Rattle.font.specs.Font.{Font}
use Rattle.formula.specs.Tree.{Items}
use Rattle.formula.specs.Places.{Readable, field_end, field_in, GoodFieldAt}
use Rattle.formula.specs.Format.{formula_limit}
use Rattle.boxes.specs.declared.styles.Style.{Style}
use Rattle.spacing.specs.Classes.{Neighbour}
use Rattle.arrange.specs.declared.Manner.{Manner}
use Rattle.boxes.specs.Values.{size_as}
use Rattle.spacing.specs.Values.{neighbour_as}
use Rattle.nodes.specs.Drawn.{Drawn}
use Rattle.nodes.specs.Kept.{Kept}
use Rattle.nodes.specs.Hull.{joined, hull}
use Rattle.nodes.specs.Values.{hull_of, is_large, RunIs}
use Rattle.setting.specs.Setting.{Line, Sides, start, style_after, set_items, set_list}
use Rattle.setting.specs.Missing.{missing_items}
use Rattle.setting.specs.Fitting.{items_fit}
use Rattle.walk_fields.specs.declared.fields.FieldBox as fields
use Rattle.walk_fields.specs.declared.fields.Missing.{Missing}
use Rattle.walk_fields.specs.declared.lines.Line as lines
use Rattle.walk_fields.specs.Values.{bare_line}
use Rattle.walk_fields.specs.Bounds.{LineWithin}
use Rattle.walk_fields.specs.Fields.{FieldDone}

-- ---- what a setter is given

-- a list's bytes
pub record ListGiven (s : List ℕ) : Type 0 where
  pub readable : Readable s
  pub short : length s ≤ formula_limit

-- and a line that they are to follow
pub record ItemsGiven (s : List ℕ) (l : lines.Line) : Type 0 where
  pub list : ListGiven s
  pub small : LineWithin (formula_limit - length s) l

-- a field at a place of its item
pub record FieldGiven (s : List ℕ) (at : ℕ) : Type 0 where
  pub good : GoodFieldAt s at
  pub inside : at ≤ length s
  pub short : length s ≤ formula_limit

-- ---- what it comes to

-- what was set of so many bytes has gone behind the line l, which is now r, and into the buffer; M is the line that the
-- definition makes of it behind l without nodes. The style is M's whether or not it fits: what is missing behind it goes by that
pub record Added (fits : Bool) (M : Line) (bytes : ℕ) (l : lines.Line) (b : List ℕ) (r : lines.Line) (b' : List ℕ) : Type 0 where
  pub large_is : is_large r.run ≡ (is_large l.run || not fits)
  pub more : l.run.count ≤ r.run.count
  pub few : r.run.count ≤ l.run.count + bytes
  pub grows : (k : ℕ) → LineWithin k l → LineWithin (k + bytes) r
  pub style_is : r.style ≡ M.style
  pub left_is : fits ≡ true → neighbour_as r.left ≡ M.left
  pub size_is : fits ≡ true → size_as r.size ≡ M.box.size
  pub count_is : fits ≡ true → r.run.count ≡ l.run.count + length M.box.nodes
  pub hull_is : fits ≡ true → hull_of r.run ≡ joined (hull_of l.run) (hull M.box.nodes)
  pub drawn : fits ≡ true → Drawn M.box.nodes b b'
  pub kept : Kept bytes b b'

abbrev pub ItemsDone : Font → Neighbour → Items → ℕ → lines.Line → List ℕ → Result lines.Line Missing → List ℕ → Type 0
ItemsDone F beyond l bytes line b (Ok r) b' =
    (missing_items F line.style l ≡ none)
    × Added (items_fit F line.style l) (set_items F beyond (bare_line line) l) bytes line b r b'
ItemsDone F beyond l bytes line b (Err m) b' =
    (missing_items F line.style l ≡ some m.place) × (m.place ≤ bytes) × Kept bytes b b'

-- a list at its own reference point, between two sides
pub record ListWhole (F : Font) (sides : Sides) (s : Style) (l : Items) (bytes : ℕ) (c : lines.Line) : Type 0 where
  pub present : missing_items F s l ≡ none
  pub large_is : is_large c.run ≡ not (items_fit F s l)
  pub count : c.run.count ≤ bytes
  pub style_is : c.style ≡ style_after s l
  pub left_is : items_fit F s l ≡ true → neighbour_as c.left ≡ (set_items F sides.right (start sides.left s) l).left
  pub size_is : items_fit F s l ≡ true → size_as c.size ≡ (set_list F sides s l).size
  pub run_is : items_fit F s l ≡ true → RunIs (set_list F sides s l).nodes c.run

abbrev pub ListDone : Font → Sides → Style → Items → ℕ → List ℕ → Result lines.Line Missing → List ℕ → Type 0
ListDone F sides s l bytes b (Ok c) b' =
    ListWhole F sides s l bytes c × (items_fit F s l ≡ true → Drawn (set_list F sides s l).nodes b b') × Kept bytes b b'
ListDone F sides s l bytes b (Err m) b' =
    (missing_items F s l ≡ some m.place) × (m.place ≤ bytes) × Kept bytes b b'

-- the field at a place of its item
abbrev pub HeadDone : Font → Style → Manner → List ℕ → ℕ → List ℕ → Result fields.FieldBox Missing → List ℕ → Type 0
HeadDone F s manner bytes at b r b' = FieldDone F s manner (field_in bytes at) at (field_end bytes at) b r b'
