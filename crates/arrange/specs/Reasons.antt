-- What decided the shifts of an item (change request 7), from what `arrange` sees of it, and what its shifts go through. Limits are shifted by
-- other rules, and an item without scripts not at all: of those there is nothing to say.
-- Assumes nothing.
use Rattle.std.specs.Prelude.{Bool, true, false}
use Rattle.std.proofs.Math.Option.{Option, none, some}
use Rattle.formula.specs.declared.Kind.{Kind}
use Rattle.formula.specs.declared.Kind.TheVariants.{Scripted, Fraction}
use Rattle.boxes.specs.declared.styles.Style.{Style}
use Rattle.boxes.specs.Parameters.{Parameters}
use Rattle.boxes.specs.Boxes.{Size, Shape, size_of, given}
use Rattle.delimiters.specs.Delimiters.{Signs}
use Rattle.nucleus.specs.Nucleus.{Nucleus}
use Rattle.reasons.specs.Reasons.{Reasons}
use Rattle.reasons.specs.Stages.{BothStages}
use Rattle.script_reasons.specs.Reasons.{script_reasons}
use Rattle.script_reasons.specs.Stages.{script_stages}
use Rattle.fractions.specs.Reasons.{fraction_reasons}
use Rattle.fractions.specs.Stages.{fraction_stages}
use Rattle.arrange_rules.specs.Arrange.{is_given, sets_limits, nucleus_of}

-- the test is whether the scripts are set as limits
abbrev pub beside_reasons : Parameters → Style → Bool → Nucleus → Option Size → Option Size → Option Reasons
beside_reasons p s true n superscript subscript = none
beside_reasons p s false n superscript subscript = script_reasons p s n superscript subscript

unfoldable pub reasons : Parameters → Style → Kind → Signs → Shape → Shape → Shape → Option Reasons
reasons p s (Scripted base) signs x y z =
    beside_reasons p s (sets_limits s base) (nucleus_of p s base signs (is_given (given z)) x) (given y) (given z)
reasons p s (Fraction bar) signs x y z = some (fraction_reasons p s bar (size_of x) (size_of y))

-- where they are set by 18a to 18f, or by 15
unfoldable pub item_stages : Parameters → Style → Kind → Signs → Shape → Shape → Shape → BothStages
item_stages p s (Scripted base) signs x y z = script_stages p s (nucleus_of p s base signs (is_given (given z)) x) (given y) (given z)
item_stages p s (Fraction bar) signs x y z = fraction_stages p s bar (size_of x) (size_of y)
