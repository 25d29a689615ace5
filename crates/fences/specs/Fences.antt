-- Fences (request 4; rule 19): the list x, the delimiters y on its left and z on its right; a is the axis height, σ22 at the
-- current size.
--     axis_high     a fence is at least as high as the axis
-- Assumes nothing.
use Rattle.std.proofs.Common.{arith}
use Rattle.std.specs.Prelude.{ℤ, pos, ◌+ℤ◌, ◌-ℤ◌, ◌*ℤ◌, ◌≤ℤ◌}
use Rattle.std.specs.Int.Signed.{quot_z}
use Rattle.scaled.specs.Length.{max_ℤ, half}
use Rattle.scaled.specs.Signed.{NotNegative}
use Rattle.scaled.specs.Linear.{#, ◌⊕◌, ◌⊖◌, greatest, halved}
use Rattle.scaled.proofs.Linear.{le_by}
use Rattle.boxes.specs.declared.styles.Style.{Style}
use Rattle.boxes.specs.Styles.{font_size}
use Rattle.boxes.specs.Parameters.{Parameters, axis_height}
use Rattle.boxes.specs.Boxes.{Size, Offset, at}

-- f and l: in thousandths, the part of 2δ that a delimiter has to reach, and by how much it may fall short of 2δ
abbrev pub delimiter_factor : ℤ
delimiter_factor = pos 901

abbrev pub delimiter_shortfall : ℤ
delimiter_shortfall = pos 327_680

-- δ, by which the list extends away from the axis
abbrev pub from_axis : ℤ → Size → ℤ
from_axis a x = max_ℤ (x.height -ℤ a) (x.depth +ℤ a)

-- the height plus depth that δ asks for: δ/500 is rounded before it is multiplied, toward 0 as it is in TeX; the δ of a list is never negative
abbrev pub extent_for : ℤ → ℤ
extent_for δ = max_ℤ (quot_z δ (pos 500) *ℤ delimiter_factor) ((δ +ℤ δ) -ℤ delimiter_shortfall)

-- the height plus depth that each of the two delimiters has to have
abbrev pub fence_extent : Parameters → Style → Size → ℤ
fence_extent p s x = extent_for (from_axis (axis_height p (font_size s)) x)

-- how far a delimiter is raised, a blank too, so that its middle is on the axis
abbrev pub raised : ℤ → Size → ℤ
raised a y = a -ℤ half (y.height -ℤ y.depth)

-- the whole, and where its parts stand
pub record Fence : Type 0 where
  pub size : Size
  pub left : Offset
  pub inside : Offset
  pub right : Offset

-- The left delimiter, raised by u, the list, and the right delimiter, raised by v, stand side by side.
abbrev pub fenced : ℤ → ℤ → Size → Size → Size → Fence
fenced u v y x z =
    let behind = y.width +ℤ x.width in
    record {
      size = record {
        width = behind +ℤ z.width;
        height = max_ℤ (max_ℤ (y.height +ℤ u) x.height) (z.height +ℤ v);
        depth = max_ℤ (max_ℤ (y.depth -ℤ u) x.depth) (z.depth -ℤ v);
      };
      left = at (pos 0) u;
      inside = at y.width (pos 0);
      right = at behind v;
    }

pub axis_high : (a v : ℤ) (y x z : Size) → NotNegative y.height → NotNegative y.depth →
    let whole = fenced (raised a y) v y x z in
    a ≤ℤ whole.size.height
axis_high a v y x z up down =
    let h = # y.height in
    let left = h ⊕ (# a ⊖ halved (h ⊖ # y.depth)) in
    le_by (# a) (greatest (greatest left (# x.height)) (# z.height ⊕ # v)) (omega arith)

unfoldable pub fence_of : Parameters → Style → Size → Size → Size → Fence
fence_of p s y x z =
    let a = axis_height p (font_size s) in
    fenced (raised a y) (raised a z) y x z
