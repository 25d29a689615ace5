-- Scripts set as limits above and below an operator (document 01, "Limits"; rules 13 and 13a).
-- Both sides go by one function, `side`: below an operator all is as above, upside down.
-- Assumes nothing.
use Rattle.std.specs.Prelude.{Bool, true, false, ◌&&◌, ℕ, ℤ, pos, neg_ℤ, ◌+ℤ◌, ◌-ℤ◌}
use Rattle.std.proofs.Math.Option.{Option, none, some}
use Rattle.scaled.specs.Length.{max_ℤ, half}
use Rattle.formula.specs.declared.Class.{Class}
use Rattle.formula.specs.declared.Limits.{Limits}
use Rattle.formula.specs.declared.Limits.TheVariants.{DisplayOnly, Always, Never}
use Rattle.formula.specs.Heads.{is_op}
use Rattle.boxes.specs.declared.styles.Level.{Level}
use Rattle.boxes.specs.Styles.{is_display}
use Rattle.boxes.specs.Parameters.{Parameters, big_op_spacing1, big_op_spacing2, big_op_spacing3, big_op_spacing4, big_op_spacing5}
use Rattle.boxes.specs.Boxes.{Size, Arranged, at, centred}
use Rattle.nucleus.specs.Nucleus.{Nucleus}

abbrev pub limits_in : Level → Limits → Bool
limits_in level DisplayOnly = is_display level
limits_in level Always = true
limits_in level Never = false

abbrev pub has_limits : Level → Class → Limits → Bool
has_limits level class limits = is_op class && limits_in level limits

-- ---- one limit: edge is the nucleus's, near and far are the script's sides toward the nucleus and away from it

-- how far its baseline lies from the operator's, and how far it and the blank beyond it reach
pub record Limit : Type 0 where
  pub shift : ℤ
  pub reach : ℤ

abbrev pub limit : ℤ → ℤ → ℤ → ℤ → ℤ → ℤ → Limit
limit leastGap leastDistance blank edge near far =
    let kern = max_ℤ leastGap (leastDistance -ℤ near) in
    let shift = edge +ℤ kern +ℤ near in
    record { shift = shift; reach = shift +ℤ far +ℤ blank }

-- ---- one side: how far it reaches, and where its script stands, to the right and away from the baseline

pub record Side : Type 0 where
  pub reach : ℤ
  pub across : ℤ
  pub shift : ℤ

-- above: in the middle of the width w, then moved right; an empty script adds no height
abbrev pub side : ℤ → ℤ → ℤ → ℤ → ℤ → ℤ → Option Size → Side
side leastGap leastDistance blank edge w right none = record { reach = edge; across = pos 0; shift = pos 0 }
side leastGap leastDistance blank edge w right (some z) =
    let l = limit leastGap leastDistance blank edge z.depth z.height in
    record { reach = l.reach; across = centred w z.width +ℤ right; shift = l.shift }

-- a script upside down
abbrev pub turned : Option Size → Option Size
turned none = none
turned (some z) = some (record { width = z.width; height = z.depth; depth = z.height })

-- the upper script half of δ to the right, the lower one to the left
module _ (p : Parameters) (size : ℕ) (n : Nucleus) (w : ℤ) where
  abbrev pub above : Option Size → Side
  above superscript =
      side (big_op_spacing1 p size) (big_op_spacing3 p size) (big_op_spacing5 p size) n.size.height w (half n.δ) superscript

  abbrev pub below : Option Size → Side
  below subscript =
      side (big_op_spacing2 p size) (big_op_spacing4 p size) (big_op_spacing5 p size) n.size.depth w (neg_ℤ (half n.δ)) (turned subscript)

-- ---- the item: all three stand in the middle of the greatest width

-- an empty script is 0 wide
abbrev pub width_of : Option Size → ℤ
width_of none = pos 0
width_of (some z) = z.width

abbrev pub widest : ℤ → Option Size → Option Size → ℤ
widest w superscript subscript = max_ℤ (max_ℤ w (width_of superscript)) (width_of subscript)

abbrev pub stacked : Nucleus → ℤ → Side → Side → Arranged
stacked n w over under =
    record {
      size = record { width = w; height = over.reach; depth = under.reach };
      first = at (centred w n.size.width +ℤ n.first.across) n.first.up;
      second = at over.across over.shift;
      third = at under.across (neg_ℤ under.shift);
      own = n.own;
    }

unfoldable pub limited : Parameters → ℕ → Nucleus → Option Size → Option Size → Arranged
limited p size n superscript subscript =
    let w = widest n.size.width superscript subscript in
    stacked n w (above p size n w superscript) (below p size n w subscript)
