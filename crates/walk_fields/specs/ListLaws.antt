-- What a list comes to, for those who call its setter.
--     line_fits_lem         a line that stands for a list fits where the list, and every list in it, does
--     bare_start, start_within, line_more     an empty line, and how far a line reaches
--     list_whole_of, list_lacks_of     a list is its items behind an empty line, between its sides, and then its end; `list_of_items` has none
-- Assumes nothing.
use Rattle.std.specs.Prelude.{◌≡◌, refl, Result, Ok, Err, Bool, false, not, ◌&&◌, ℕ, ◌≤◌, ℤ, pos}
use Rattle.std.proofs.Math.Path.{sym, subst, ap, ap₂}
use Rattle.std.proofs.Common.{◌∙◌, arith}
use Rattle.std.proofs.Math.Bool.{true, and-true, and-false, and_comm}
use mathlib.Core.List.{List, []}
use Rattle.std.proofs.Math.Option.{none, some}
use Rattle.scaled.specs.Signed.{Within}
use Rattle.font.specs.Font.{Font}
use Rattle.formula.specs.Tree.{Items}
use Rattle.boxes.specs.declared.styles.Style.{Style}
use Rattle.spacing.specs.Classes.{Neighbour}
use Rattle.spacing.specs.Values.{neighbour_as}
use Rattle.boxes.specs.Parameters.{Parameters}
use Rattle.boxes.specs.Boxes.{Size}
use Rattle.boxes.specs.Values.{size_as}
use Rattle.nodes.specs.Nodes.{Node}
use Rattle.nodes.specs.Bounds.{nodes_fit}
use Rattle.nodes.specs.Drawn.{Drawn}
use Rattle.nodes.specs.Hull.{hull_fits, joined}
use Rattle.nodes.specs.HullLaws.{fits_hull, within_more}
use Rattle.nodes.specs.Values.{hull_of, is_large, RunIs}
use Rattle.setting.specs.Setting.{Box, Line, Sides, no_sides, start, style_after, closed, set_items, set_list}
use Rattle.setting.proofs.SettingLaws.{closed_nodes, set_items_style}
use Rattle.setting.specs.Fitting.{size_fits, box_fits, items_fit}
use Rattle.walk_fields.specs.declared.lines.Line as lines
use Rattle.walk_fields.specs.declared.fields.Missing.{Missing}
use Rattle.walk_fields.specs.Values.{bare_in, bare_line, line_fits}
use Rattle.walk_fields.specs.Bounds.{LineWithin, stride}
use Rattle.walk_fields.specs.Lines.{StartLine, closed_size, ClosedLine}
use Rattle.walk_fields.specs.Lists.{ItemsDone, ListWhole, ListDone}

pub line_fits_lem : {F : Font} {sides : Sides} {s : Style} {l : Items} {n : ℕ} {c : lines.Line} → ListWhole F sides s l n c →
    line_fits c ≡ (box_fits (set_list F sides s l) && items_fit F s l)
unfolding box_fits
line_fits_lem {F} {sides} {s} {l} {c = c} w = go (items_fit F s l) refl
  where
    b : Box
    b = set_list F sides s l

    go : (t : Bool) → items_fit F s l ≡ t → line_fits c ≡ (size_fits b.size && nodes_fit b.nodes && items_fit F s l)
    go true e =
        let small : is_large c.run ≡ false = w.large_is ∙ ap not e in
        let reach : hull_fits (hull_of c.run) ≡ nodes_fit b.nodes = ap hull_fits (w.run_is e).hull_is ∙ sym (fits_hull b.nodes) in
        let size : size_fits (size_as c.size) ≡ size_fits b.size = ap size_fits (w.size_is e) in
        rw (small, reach, size, e) (and_comm (nodes_fit b.nodes) (size_fits b.size) ∙ sym (and-true (size_fits b.size && nodes_fit b.nodes)))
    go false e =
        let large : is_large c.run ≡ true = w.large_is ∙ ap not e in
        rw (large, e) (sym (and-false (size_fits b.size && nodes_fit b.nodes)))

-- ---- an empty line

pub bare_start : {left : Neighbour} {s : Style} {c : lines.Line} → StartLine left s c → bare_line c ≡ start left s
bare_start {s = s} {c} o =
    ap (λ (t : Style). bare_in t c) o.style_is
    ∙ ap₂ (λ (m : Neighbour) (z : Size). record { left = m; style = s; box = record { size = z; nodes = [] } }) o.left_is o.size_is

pub start_within : (k : ℕ) {left : Neighbour} {s : Style} {c : lines.Line} → StartLine left s c → LineWithin k c
start_within k o =
    let none_there = o.run_is.count_is in
    record {
      width = zero _ (ap (λ (z : Size). z.width) o.size_is);
      height = zero _ (ap (λ (z : Size). z.height) o.size_is);
      depth = zero _ (ap (λ (z : Size). z.depth) o.size_is);
      count = omega arith;
      hull = rw o.run_is.hull_is tt;
    }
  where
    zero : (k : ℕ) {z : ℤ} → z ≡ pos 0 → Within k z
    zero k e = rw e (omega arith)

-- a line behind more bytes
pub line_more : {j k : ℕ} {l : lines.Line} → j ≤ k → LineWithin j l → LineWithin k l
line_more {j} {k} {l} more w =
    let far = w.width in
    let few = w.count in
    record {
      width = omega arith;
      height = w.height;
      depth = w.depth;
      count = omega arith;
      hull = within_more (stride j) (stride k) (hull_of l.run) (omega arith) w.hull;
    }

-- ---- its end

closed_size_lem : (F : Font) (s : Style) (right : Neighbour) (m : Line) → (closed F s right m).size ≡ closed_size F.parameter s right m.left m.box.size
closed_size_lem F s none m = refl
closed_size_lem F s (some class) m = refl

-- nothing on the right changes nothing
closed_bare : (P : Parameters) (s : Style) (c : lines.Line) → ClosedLine P s none c c
closed_bare P s c = record { left_is = refl; style_is = refl; size_is = refl; run_is = refl }

-- behind an empty line c
module _ (F : Font) (sides : Sides) {s : Style} (l : Items) (n : ℕ) {c : lines.Line} (b b' : List ℕ) (o : StartLine sides.left s c) where
  abbrev whole_line : Line
  whole_line = set_items F sides.right (start sides.left s) l

  pub list_whole_of : (r d : lines.Line) → ItemsDone F sides.right l n c b (Ok r) b' →
      ClosedLine F.parameter s sides.right r d → ListDone F sides s l n b (Ok d) b'
  unfolding set_list joined
  list_whole_of r d (present, a) e =
      let right = sides.right in
      let here = o.style_is in
      let like : set_items F right (bare_line c) l ≡ whole_line = ap (λ (m : Line). set_items F right m l) (bare_start o) in
      let fits : items_fit F s l ≡ true → items_fit F c.style l ≡ true = λ h. ap (λ (t : Style). items_fit F t l) here ∙ h in
      let few = (a.grows 0 (start_within 0 o)).count in
      let none_there = o.run_is.count_is in
      let same = e.run_is in (
        record {
          present = rw here at present;
          large_is = ap is_large same ∙ a.large_is ∙ rw (o.run_is.large_is, here);
          count = rw same (omega arith);
          style_is = e.style_is ∙ a.style_is ∙ set_items_style F right (bare_line c) l ∙ ap (λ (t : Style). style_after t l) here;
          left_is = λ h. ap neighbour_as e.left_is ∙ a.left_is (fits h) ∙ ap (λ (m : Line). m.left) like;
          size_is = λ h.
              e.size_is
              ∙ ap₂ (closed_size F.parameter s right) (a.left_is (fits h) ∙ ap (λ (m : Line). m.left) like)
              (a.size_is (fits h) ∙ ap (λ (m : Line). m.box.size) like)
              ∙ sym (closed_size_lem F s right whole_line);
          run_is = λ h.
              subst (λ (ns : List Node). RunIs ns d.run) (ap (λ (m : Line). m.box.nodes) like ∙ sym (closed_nodes F s right whole_line))
              (subst (RunIs _) (sym same) (record { count_is = omega (arith, a.count_is (fits h)); hull_is = a.hull_is (fits h) ∙ rw o.run_is.hull_is }));
        },
        λ h. subst (λ (ns : List Node). Drawn ns b b') (ap (λ (m : Line). m.box.nodes) like ∙ sym (closed_nodes F s right whole_line)) (a.drawn (fits h)),
        a.kept,
      )

  pub list_lacks_of : (m : Missing) → ItemsDone F sides.right l n c b (Err m) b' → ListDone F sides s l n b (Err m) b'
  list_lacks_of m d = rw o.style_is at d

-- without sides
pub list_of_items : (F : Font) {s : Style} (l : Items) (n : ℕ) {c : lines.Line} (b b' : List ℕ) (r : Result lines.Line Missing) → StartLine none s c →
    ItemsDone F none l n c b r b' → ListDone F no_sides s l n b r b'
list_of_items F {s} l n b b' (Ok r) o d = list_whole_of F no_sides l n b b' o r r d (closed_bare F.parameter s r)
list_of_items F l n b b' (Err m) o d = list_lacks_of F no_sides l n b b' o m d
