-- What the values of fields and lines stand for in the definition.
--     sides_as                what a list sees on its sides
--     FieldBoxIs             a field that has been set alone
--     bare_in, bare_line       a line, but for its nodes: the code knows how many there are and how far they reach
--     line_fits               whether a line keeps within the greatest length, and so do all lists in it
-- Assumes nothing.
use Rattle.std.specs.Prelude.{◌≡◌, Bool, not, ◌&&◌, []}
use Rattle.spacing.specs.Values.{neighbour_as}
use Rattle.boxes.specs.declared.styles.Style.{Style}
use Rattle.boxes.specs.Values.{size_as, shape_as}
use Rattle.nodes.specs.Hull.{hull_fits}
use Rattle.nodes.specs.Values.{hull_of, is_large, RunIs}
use Rattle.setting.specs.Setting.{FieldBox, Line, Sides as SidesOf}
use Rattle.setting.specs.Fitting.{size_fits}
use Rattle.walk_fields.specs.declared.sides.Sides.{Sides}
use Rattle.walk_fields.specs.declared.fields.FieldBox as fields
use Rattle.walk_fields.specs.declared.lines.Line as lines

abbrev pub sides_as : Sides → SidesOf
sides_as s = record { left = neighbour_as s.left; right = neighbour_as s.right }

pub record FieldBoxIs (x : FieldBox) (c : fields.FieldBox) : Type 0 where
  pub shape_is : shape_as c.shape ≡ x.shape
  pub run_is : RunIs x.nodes c.run

abbrev pub bare_in : Style → lines.Line → Line
bare_in s c = record { left = neighbour_as c.left; style = s; box = record { size = size_as c.size; nodes = [] } }

abbrev pub bare_line : lines.Line → Line
bare_line c = bare_in c.style c

abbrev pub line_fits : lines.Line → Bool
line_fits c = (not (is_large c.run) && hull_fits (hull_of c.run)) && size_fits (size_as c.size)
