-- Roots (request 3; rule 11): the nucleus x in the primed style, the sign y.
-- Assumes nothing.
use Rattle.std.specs.Prelude.{ℤ, pos, ◌+ℤ◌, ◌-ℤ◌}
use Rattle.std.specs.Int.Signed.{lt_z, shr_z}
use Rattle.scaled.specs.Length.{pick, max_ℤ, half}
use Rattle.boxes.specs.declared.styles.Style.{Style}
use Rattle.boxes.specs.Styles.{is_display, font_size}
use Rattle.boxes.specs.Parameters.{Parameters, x_height, rule_thickness}
use Rattle.boxes.specs.Boxes.{Size, Offset, Rule, at}

-- what stands over a nucleus, and between it and the rule, to begin with: θ = ξ8, φ = σ5 in display styles and θ in others,
-- ψ = θ + φ/4; no parameter is negative
abbrev pub least_clearance : Parameters → Style → ℤ
least_clearance p s =
    let θ = rule_thickness p (font_size s) in
    θ +ℤ shr_z (pick (is_display s.level) (x_height p (font_size s)) θ) 4

-- the height plus depth that the sign has to have
abbrev pub sign_extent : Parameters → Style → Size → ℤ
sign_extent p s x = ((x.height +ℤ x.depth) +ℤ least_clearance p s) +ℤ rule_thickness p (font_size s)

-- ψ grows by half of the excess where the sign is deeper than the nucleus with ψ above it
abbrev pub clearance : ℤ → Size → Size → ℤ
clearance ψ x y =
    let excess = y.depth -ℤ ((x.height +ℤ x.depth) +ℤ ψ) in
    pick (lt_z (pos 0) excess) (ψ +ℤ half excess) ψ

-- the whole, and where its parts stand
pub record Radical : Type 0 where
  pub size : Size
  pub sign : Offset
  pub rule : Rule
  pub nucleus : Offset

-- The sign is raised to the lower edge of the rule, which is as thick as the sign is high; as much is blank above it.
abbrev pub rooted : ℤ → Size → Size → Radical
rooted ψ x y =
    let up = x.height +ℤ ψ in
    let θ = y.height in
    record {
      size = record {
        width = y.width +ℤ x.width;
        height = (up +ℤ θ) +ℤ θ;
        depth = max_ℤ x.depth (y.depth -ℤ up);
      };
      sign = at (pos 0) up;
      rule = record { corner = at y.width up; width = x.width; thickness = θ };
      nucleus = at y.width (pos 0);
    }

unfoldable pub root : Parameters → Style → Size → Size → Radical
root p s x y = rooted (clearance (least_clearance p s) x y) x y
