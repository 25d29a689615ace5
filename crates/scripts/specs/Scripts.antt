-- Superscripts and subscripts (document 01, "Scripts"; rules 18a to 18f).
-- Each stage of a shift has a name; u, v and ψ are the rule's own letters. A script's size is that of its box before the
-- script space is added.
-- Assumes nothing.
use Rattle.std.specs.Prelude.{true, false, List, [], ◌∷◌, ℕ, ℤ, pos, neg_ℤ, ◌+ℤ◌, ◌-ℤ◌, ◌*ℤ◌}
use Rattle.std.proofs.Math.Option.{Option, none, some}
use Rattle.std.specs.Int.Signed.{lt_z, shr_z}
use Rattle.scaled.specs.Length.{pick, max_ℤ}
use Rattle.boxes.specs.declared.styles.Style.{Style}
use Rattle.boxes.specs.Styles.{is_display, font_size, superscript_style}
use Rattle.boxes.specs.Parameters.{Parameters, x_height, sup1, sup2, sup3, sub1, sub2, sup_drop, sub_drop, rule_thickness}
use Rattle.boxes.specs.Boxes.{Size, Offset, Shifts, Arranged, at, origin}
use Rattle.nucleus.specs.Nucleus.{Nucleus}

-- the blank behind each script
abbrev pub script_space : ℤ
script_space = pos 32_768

-- σ5/4 and 4σ5/5
abbrev pub quarter_xheight : Parameters → ℕ → ℤ
quarter_xheight p size = shr_z (x_height p size) 4

abbrev pub four_fifths_xheight : Parameters → ℕ → ℤ
four_fifths_xheight p size = shr_z (x_height p size *ℤ pos 4) 5

-- ---- 18a: u and v, the shifts that a nucleus which is no plain symbol asks for, at the size of the superscript's style

unfoldable pub drops : Parameters → Style → Nucleus → Shifts
drops p s n =
    let size = font_size (superscript_style s) in
    elim n.is_plain [
      | true ↦ record { up = pos 0; down = pos 0 }
      | false ↦ record { up = n.size.height -ℤ sup_drop p size; down = n.size.depth +ℤ sub_drop p size }
    ]

-- ---- the candidates for a shift: 18b to 18d say which there are, and take the greatest

pub record Candidates : Type 0 where
  pub dropped : ℤ  -- what the nucleus asks for by its drop
  pub least : ℤ  -- the font's least shift
  pub free : Option ℤ  -- what keeps the script's other edge free; 18d has none, for 18e sees to the gap

abbrev pub kept_free : ℤ → Option ℤ → ℤ
kept_free shift none = shift
kept_free shift (some free) = max_ℤ shift free

unfoldable pub greatest : Candidates → ℤ
greatest c = kept_free (max_ℤ c.dropped c.least) c.free

-- ---- 18b: a subscript y alone

unfoldable pub subscript_candidates : Parameters → Style → Nucleus → Size → Candidates
subscript_candidates p s n y =
    let size = font_size s in
    record { dropped = (drops p s n).down; least = sub1 p size; free = some (y.height -ℤ four_fifths_xheight p size) }

abbrev pub subscript_down : Parameters → Style → Nucleus → Size → ℤ
subscript_down p s n y = greatest (subscript_candidates p s n y)

-- ---- 18c: a superscript x

-- σ15 in cramped styles, σ13 in D, else σ14
unfoldable pub least_up : Parameters → Style → ℤ
least_up p s =
    let size = font_size s in
    pick s.cramped (sup3 p size) (pick (is_display s.level) (sup1 p size) (sup2 p size))

unfoldable pub superscript_candidates : Parameters → Style → Nucleus → Size → Candidates
superscript_candidates p s n x =
    record { dropped = (drops p s n).up; least = least_up p s; free = some (x.depth +ℤ quarter_xheight p (font_size s)) }

abbrev pub superscript_up : Parameters → Style → Nucleus → Size → ℤ
superscript_up p s n x = greatest (superscript_candidates p s n x)

-- ---- 18d: the subscript of a pair, at first

unfoldable pub pair_candidates : Parameters → Style → Nucleus → Candidates
pair_candidates p s n = record { dropped = (drops p s n).down; least = sub2 p (font_size s); free = none }

abbrev pub pair_down : Parameters → Style → Nucleus → ℤ
pair_down p s n = greatest (pair_candidates p s n)

-- ---- 18e: superscript x and subscript y, with the shifts u and v so far

-- the free height between the superscript's bottom and the subscript's top
abbrev pub gap : Size → Size → ℤ → ℤ → ℤ
gap x y u v = (u -ℤ x.depth) -ℤ (y.height -ℤ v)

abbrev pub four_rules : Parameters → ℕ → ℤ
four_rules p size = rule_thickness p size *ℤ pos 4

-- the v with which the gap is four rules
unfoldable pub gap_down : Parameters → ℕ → Size → Size → ℤ → ℤ
gap_down p size x y u = four_rules p size -ℤ (u -ℤ x.depth) +ℤ y.height

-- how far the superscript's bottom lies below four fifths of the x-height
unfoldable pub ψ_of : Parameters → ℕ → Size → ℤ → ℤ
ψ_of p size x u = four_fifths_xheight p size -ℤ (u -ℤ x.depth)

-- both go up by ψ, if it is positive
unfoldable pub lifted : ℤ → Shifts → Shifts
lifted ψ s =
    elim (lt_z (pos 0) ψ) [ true ↦ record { up = s.up +ℤ ψ; down = s.down -ℤ ψ } | false ↦ s ]

-- ψ is looked at only where the gap was too small
unfoldable pub spread : Parameters → ℕ → Size → Size → Shifts → Shifts
spread p size x y s =
    elim (lt_z (gap x y s.up s.down) (four_rules p size)) [
      | true ↦ lifted (ψ_of p size x s.up) (record { up = s.up; down = gap_down p size x y s.up })
      | false ↦ s
    ]

unfoldable pub pair_shifts : Parameters → Style → Nucleus → Size → Size → Shifts
pair_shifts p s n x y =
    spread p (font_size s) x y (record { up = superscript_up p s n x; down = pair_down p s n })

-- ---- the item: scripts start where the nucleus ends; it is as high and as deep as nucleus and scripts reach

-- how far some edges reach, at least 0
unfoldable pub reach : List ℤ → ℤ
reach [] = pos 0
reach (z ∷ l) = max_ℤ z (reach l)

-- from the places and the width of the scripts, and how high and how deep they reach
abbrev pub assembled : Nucleus → Offset → Offset → ℤ → ℤ → ℤ → Arranged
assembled n second third w top bottom =
    record {
      size =
          record {
            width = n.size.width +ℤ w;
            height = max_ℤ n.size.height top;
            depth = max_ℤ n.size.depth bottom;
          };
      first = n.first;
      second = second;
      third = third;
      own = n.own;
    }

abbrev pub without_scripts : Nucleus → Arranged
without_scripts n = assembled n origin origin (pos 0) (reach []) (reach [])

-- one script z, its baseline up from the nucleus's: down where that is negative
abbrev pub alone : Nucleus → Size → Offset → Offset → ℤ → Arranged
alone n z second third up =
    assembled n second third (z.width +ℤ script_space) (reach ((z.height +ℤ up) ∷ [])) (reach ((z.depth -ℤ up) ∷ []))

abbrev pub with_superscript : Nucleus → Size → ℤ → Arranged
with_superscript n x u = alone n x (at n.size.width u) origin u

abbrev pub with_subscript : Nucleus → Size → ℤ → Arranged
with_subscript n y v = alone n y origin (at n.size.width (neg_ℤ v)) (neg_ℤ v)

-- 18f: the superscript of a pair stands δ further right
abbrev pub pair_width : Nucleus → Size → Size → ℤ
pair_width n x y = max_ℤ (x.width +ℤ script_space +ℤ n.δ) (y.width +ℤ script_space)

-- how far a pair reaches to the side that one script is shifted toward, and the other away from
abbrev pub pair_reach : ℤ → ℤ → ℤ → ℤ → ℤ
pair_reach near toward far away = reach ((near +ℤ toward) ∷ (far -ℤ away) ∷ [])

abbrev pub pair_top : Size → Size → Shifts → ℤ
pair_top x y t = pair_reach x.height t.up y.height t.down

abbrev pub pair_bottom : Size → Size → Shifts → ℤ
pair_bottom x y t = pair_reach y.depth t.down x.depth t.up

abbrev pub with_pair : Nucleus → Size → Size → Shifts → Arranged
with_pair n x y t =
    assembled n (at (n.size.width +ℤ n.δ) t.up) (at n.size.width (neg_ℤ t.down))
    (pair_width n x y) (pair_top x y t) (pair_bottom x y t)

unfoldable pub scripted : Parameters → Style → Nucleus → Option Size → Option Size → Arranged
scripted p s n none none = without_scripts n
scripted p s n (some x) none = with_superscript n x (superscript_up p s n x)
scripted p s n none (some y) = with_subscript n y (subscript_down p s n y)
scripted p s n (some x) (some y) = with_pair n x y (pair_shifts p s n x y)
