-- `has_sign` asks whether the search finds anything (`found_anyway`).
-- Assumes nothing.
use Rattle.std.proofs.Common.{◌≡◌, refl, ap, ◌∙◌}
use Rattle.std.specs.Prelude.{Option, Some, None}
use Rattle.std.specs.Option.{is_some}
use Rattle.delimiters.specs.declared.Sign.{Sign}
use Rattle.delimiters.specs.DelimiterLaws.{is_found, found_anyway}
use Rattle.delimiters.specs.Values.{chosen_as}
use Rattle.delimiters.proofs.has_sign.Goals as goal

found_some : (s : Option Sign) → is_some s ≡ is_found (chosen_as s)
found_some None = refl
found_some (Some s) = refl

pub returns : goal.returns
returns c =
    c.is_some.ensures
    ∙ found_some c.sign_for.result
    ∙ ap is_found c.sign_for.ensures
    ∙ found_anyway _ c.args.size c.args.d _
