-- The font parameters that the rules use, by the names of Appendix G's table, at one size.
-- Assumes nothing.
use Rattle.std.specs.Prelude.{ℕ, ◌+◌, ◌-◌, ℤ, pos}

-- a parameter by size and number, numbered from 0 (`Font.parameter`)
abbrev pub Parameters : Type 0
Parameters = ℕ → ℕ → ℕ

module _ (p : Parameters) (size : ℕ) where
  abbrev pub σ : ℕ → ℤ
  σ n = pos (p size (n - 1))

  -- the thirteen ξ stand behind the twenty-two σ
  abbrev pub ξ : ℕ → ℤ
  ξ n = pos (p size (22 + n - 1))

  abbrev pub x_height : ℤ
  x_height = σ 5

  abbrev pub quad : ℤ
  quad = σ 6

  -- a numerator's shift up: in display styles, with a bar, without one
  abbrev pub num1 : ℤ
  num1 = σ 8

  abbrev pub num2 : ℤ
  num2 = σ 9

  abbrev pub num3 : ℤ
  num3 = σ 10

  -- a denominator's shift down: in display styles, in others
  abbrev pub denom1 : ℤ
  denom1 = σ 11

  abbrev pub denom2 : ℤ
  denom2 = σ 12

  -- a superscript's shift up: in D, in other uncramped styles, in cramped ones
  abbrev pub sup1 : ℤ
  sup1 = σ 13

  abbrev pub sup2 : ℤ
  sup2 = σ 14

  abbrev pub sup3 : ℤ
  sup3 = σ 15

  -- a subscript's shift down: alone, with a superscript
  abbrev pub sub1 : ℤ
  sub1 = σ 16

  abbrev pub sub2 : ℤ
  sub2 = σ 17

  abbrev pub sup_drop : ℤ
  sup_drop = σ 18

  abbrev pub sub_drop : ℤ
  sub_drop = σ 19

  abbrev pub axis_height : ℤ
  axis_height = σ 22

  abbrev pub rule_thickness : ℤ
  rule_thickness = ξ 8

  -- limits: the least gaps above and below, the least distances of baselines, the blank beyond
  abbrev pub big_op_spacing1 : ℤ
  big_op_spacing1 = ξ 9

  abbrev pub big_op_spacing2 : ℤ
  big_op_spacing2 = ξ 10

  abbrev pub big_op_spacing3 : ℤ
  big_op_spacing3 = ξ 11

  abbrev pub big_op_spacing4 : ℤ
  big_op_spacing4 = ξ 12

  abbrev pub big_op_spacing5 : ℤ
  big_op_spacing5 = ξ 13
