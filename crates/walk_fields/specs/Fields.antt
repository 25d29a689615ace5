-- What a field that is set alone comes to (`FieldDone`), and a line that is a whole list as a field (`ListField`).
-- Of what passes the greatest length nothing is promised but that it does so, and how many nodes it has at most.
-- Assumes nothing.
use Rattle.std.specs.Prelude.{◌≡◌, true, not, List, Result, Ok, Err, ℕ, ◌+◌, ◌-◌, ◌^◌, ◌≤◌, ◌<◌}
use Rattle.std.proofs.Math.Option.{none, some}
use Rattle.font.specs.Font.{Font}
use Rattle.formula.specs.Tree.{Field}
use Rattle.formula.specs.Format.{formula_limit}
use Rattle.boxes.specs.declared.styles.Style.{Style}
use Rattle.boxes.specs.declared.Shape.TheVariants.{Nothing, Box}
use Rattle.boxes.specs.Parameters.{Parameters}
use Rattle.spacing.specs.Classes.{Neighbour}
use Rattle.arrange.specs.declared.Manner.{Manner}
use Rattle.boxes.specs.Bounds.{ModerateShape}
use Rattle.nodes.specs.Bounds.{greatest_length}
use Rattle.nodes.specs.Drawn.{Drawn}
use Rattle.nodes.specs.Kept.{Kept}
use Rattle.nodes.specs.Hull.{HullWithin}
use Rattle.nodes.specs.Values.{hull_of, is_large, EmptyRun}
use Rattle.setting.specs.Setting.{set_field}
use Rattle.setting.specs.Missing.{missing_field}
use Rattle.setting.specs.Fitting.{field_fits}
use Rattle.walk_fields.specs.declared.fields.FieldBox as fields
use Rattle.walk_fields.specs.declared.fields.Missing.{Missing}
use Rattle.walk_fields.specs.declared.lines.Line as lines
use Rattle.walk_fields.specs.Values.{FieldBoxIs, line_fits}
use Rattle.walk_fields.specs.Bounds.{LineWithin}
use Rattle.walk_fields.specs.Lines.{ClosedLine}

pub record EmptyField (end : ℕ) (c : fields.FieldBox) : Type 0 where
  pub end_is : c.end ≡ end
  pub shape_is : c.shape ≡ Nothing
  pub run_is : EmptyRun c.run

-- how far the numbers of a field lie from zero, whatever it holds; it has at most a node for each of its bytes
pub record FieldBoxWithin (at : ℕ) (c : fields.FieldBox) : Type 0 where
  pub shape : ModerateShape c.shape
  pub count : at + c.run.count ≤ c.end
  pub hull : HullWithin greatest_length (hull_of c.run)

-- the field f, which stands at a place of its item and ends at another: all but its nodes in the buffer
pub record FieldWhole (F : Font) (s : Style) (manner : Manner) (f : Field) (at end : ℕ) (c : fields.FieldBox) : Type 0 where
  pub present : missing_field F s manner at f ≡ none
  pub end_is : c.end ≡ end
  pub large_is : is_large c.run ≡ not (field_fits F s manner f)
  pub small : FieldBoxWithin at c
  pub is : field_fits F s manner f ≡ true → FieldBoxIs (set_field F s manner f) c

abbrev pub FieldDone : Font → Style → Manner → Field → ℕ → ℕ → List ℕ → Result fields.FieldBox Missing → List ℕ → Type 0
FieldDone F s manner f at end b (Ok c) b' =
    FieldWhole F s manner f at end c × (field_fits F s manner f ≡ true → Drawn (set_field F s manner f).nodes b b')
    × Kept (end - at) b b'
FieldDone F s manner f at end b (Err m) b' =
    (missing_field F s manner at f ≡ some m.place) × (m.place ≤ end) × Kept (end - at) b b'

-- ---- from a line

-- a whole line as a field that ends at a place: the list that it stands for, if that fits
pub record LineField (end : ℕ) (l : lines.Line) (c : fields.FieldBox) : Type 0 where
  pub end_is : c.end ≡ end
  pub large_is : is_large c.run ≡ not (line_fits l)
  pub shape : ModerateShape c.shape
  pub count : c.run.count ≤ l.run.count
  pub hull : HullWithin greatest_length (hull_of c.run)
  pub is : line_fits l ≡ true → (c.shape ≡ Box l.size) × (c.run ≡ l.run)

-- with the space at its end
pub record ClosedField (P : Parameters) (s : Style) (right : Neighbour) (end : ℕ) (l : lines.Line) (c : fields.FieldBox) : Type 0 where
  pub closed : lines.Line
  pub closed_is : ClosedLine P s right l closed
  pub part_is : LineField end closed c

-- what the setter of a list came to, whose items stand at a place of its item, and the field from that
abbrev pub ListGoes : ℕ → Result lines.Line Missing → Type 0
ListGoes first (Ok l) = LineWithin formula_limit l
ListGoes first (Err m) = first + m.place < 2 ^ 64

abbrev pub ListField : Parameters → Style → Neighbour → ℕ → ℕ → Result lines.Line Missing → Result fields.FieldBox Missing → Type 0
ListField P s right first end (Ok l) (Ok c) = ClosedField P s right end l c
ListField P s right first end (Ok l) (Err m) = ⊥
ListField P s right first end (Err m) (Ok c) = ⊥
ListField P s right first end (Err m) (Err n) = n.place ≡ first + m.place
