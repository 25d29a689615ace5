-- The nucleus of an atom, an operator, an overline or an underline (document 01, "Nucleus", "OV", "UN"; rules 9, 10, 13, 17).
-- Assumes nothing.
use Rattle.std.specs.Prelude.{Bool, true, false, ◌&&◌, not, ℤ, pos, neg_ℤ, ◌+ℤ◌, ◌-ℤ◌, ◌*ℤ◌}
use Rattle.scaled.specs.Length.{max_ℤ, half}
use Rattle.font.specs.Font.{Metrics}
use Rattle.boxes.specs.Boxes.{Size, Shape, nothing, char, box, char_size, zero_size, Offset, at, origin, Own, no_own, ruled_behind}

-- A nucleus as the limits and the scripts see it.
pub record Nucleus : Type 0 where
  pub size : Size
  pub first : Offset  -- where its field stands
  pub δ : ℤ  -- the italic correction that a superscript of a pair, or the limits, still have to heed
  pub is_plain : Bool  -- whether the drops of rule 18a are 0
  pub own : Own  -- its line, its sign and its rule, or its two signs

abbrev pub box_nucleus : Size → Nucleus
box_nucleus z = record { size = z; first = origin; δ = pos 0; is_plain = false; own = no_own }

-- ---- rule 17: a symbol of a class other than Op; its italic correction is space behind it unless a subscript follows

abbrev pub symbol_nucleus : Metrics → Bool → Nucleus
symbol_nucleus m true =
    record {
      size = record { width = pos m.width; height = pos m.height; depth = pos m.depth };
      first = origin;
      δ = pos m.italic;
      is_plain = true;
      own = no_own;
    }
symbol_nucleus m false = record { size = char_size m; first = origin; δ = pos 0; is_plain = true; own = no_own }

-- ---- rule 13: an operator's symbol stands centred on the axis

-- how far it is shifted down
abbrev pub operator_shift : ℤ → Metrics → ℤ
operator_shift axis m = half (pos m.height -ℤ pos m.depth) -ℤ axis

-- δ is left out of the width where a subscript stands beside the operator
abbrev pub operator_width : Metrics → Bool → ℤ
operator_width m true = pos m.width
operator_width m false = pos m.width +ℤ pos m.italic

-- height and depth are at least 0
abbrev pub operator_size : Metrics → Bool → ℤ → Size
operator_size m subscriptBeside down =
    record {
      width = operator_width m subscriptBeside;
      height = max_ℤ (pos 0) (pos m.height -ℤ down);
      depth = max_ℤ (pos 0) (pos m.depth +ℤ down);
    }

abbrev pub operator_nucleus : ℤ → Metrics → Bool → Nucleus
operator_nucleus axis m subscriptBeside =
    let down = operator_shift axis m in
    record {
      size = operator_size m subscriptBeside down;
      first = at (pos 0) (neg_ℤ down);
      δ = pos m.italic;
      is_plain = false;  -- centred on the axis, it counts as a box
      own = no_own;
    }

-- an atom's nucleus; the tests are whether it is an Op, has limits set, and has a subscript
abbrev pub atom_nucleus : ℤ → Bool → Bool → Bool → Shape → Nucleus
atom_nucleus axis operator limits subscript nothing = box_nucleus zero_size
atom_nucleus axis true limits subscript (char m) = operator_nucleus axis m (subscript && not limits)
atom_nucleus axis false limits subscript (char m) = symbol_nucleus m subscript
atom_nucleus axis operator limits subscript (box z) = box_nucleus z

-- ---- rules 9 and 10: a line over or under the nucleus x, with 3θ between and θ beyond

-- a nucleus of size z with a line as wide, whose lower edge is up from the baseline
abbrev pub lined : Size → ℤ → ℤ → Nucleus
lined z θ up =
    record {
      size = z;
      first = origin;
      δ = pos 0;
      is_plain = false;
      own = ruled_behind record { corner = at (pos 0) up; width = z.width; thickness = θ };
    }

abbrev pub overline : ℤ → Size → Nucleus
overline θ x =
    lined (record { width = x.width; height = x.height +ℤ θ *ℤ pos 5; depth = x.depth }) θ (x.height +ℤ θ *ℤ pos 3)

-- the line's top is 3θ below the nucleus, so that its lower edge is 4θ below
abbrev pub underline : ℤ → Size → Nucleus
underline θ x =
    lined (record { width = x.width; height = x.height; depth = x.depth +ℤ θ *ℤ pos 5 }) θ
    (neg_ℤ (x.depth +ℤ θ *ℤ pos 3) -ℤ θ)
