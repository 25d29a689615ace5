-- The style of each field of an item, and the manner in which the first is set. What is arranged from the shapes of the fields is passed
-- on from crate arrange_rules.
-- Assumes nothing.
use Rattle.std.specs.Prelude.{Bool, true, false}
use Rattle.formula.specs.declared.Base.{Base}
use Rattle.formula.specs.declared.Base.TheVariants.{Atom, Over, Under, Root, Fence}
use Rattle.formula.specs.declared.Kind.{Kind}
use Rattle.formula.specs.declared.Kind.TheVariants.{Scripted, Fraction}
use Rattle.formula.specs.Heads.{is_op}
use Rattle.boxes.specs.declared.styles.Style.{Style}
use Rattle.boxes.specs.Styles.{is_display, superscript_style, subscript_style, numerator_style, denominator_style, cramped_style}
use Rattle.arrange.specs.declared.Manner.{Manner}
use Rattle.arrange.specs.declared.Manner.TheVariants.{Plain, Enlarged, Fenced}
unfoldable pub use Rattle.arrange_rules.specs.Arrange.{arrange, own_counts}

-- ---- the style of each field, at an item in the style s

-- the field of a base; under a line or in a root it is cramped (rules 9 and 11)
abbrev pub base_style : Base → Style → Style
base_style (Atom class limits) s = s
base_style Over s = cramped_style s
base_style Under s = s
base_style (Root d) s = cramped_style s
base_style (Fence left right) s = s

abbrev pub first_style : Kind → Style → Style
first_style (Scripted base) s = base_style base s
first_style (Fraction bar) s = numerator_style s

abbrev pub second_style : Kind → Style → Style
second_style (Scripted base) s = superscript_style s
second_style (Fraction bar) s = denominator_style s

abbrev pub third_style : Style → Style
third_style s = subscript_style s

-- ---- the manner in which the first field is set; the others are set plainly

-- rule 13: in display styles the symbol of an Op gives way to its successor
abbrev pub op_manner : Bool → Manner
op_manner true = Enlarged
op_manner false = Plain

-- rule 19: a fence's list stands between its delimiters
abbrev pub base_manner : Base → Style → Manner
base_manner (Atom class limits) s = elim (is_op class) [ true ↦ op_manner (is_display s.level) | false ↦ Plain ]
base_manner Over s = Plain
base_manner Under s = Plain
base_manner (Root d) s = Plain
base_manner (Fence left right) s = Fenced

abbrev pub first_manner : Kind → Style → Manner
first_manner (Scripted base) s = base_manner base s
first_manner (Fraction bar) s = Plain
