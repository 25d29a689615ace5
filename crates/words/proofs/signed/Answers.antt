-- `signed` meets its contract, by `signed_bits`.
-- Assumes nothing.
use borrow.Author.Rules.{rules}
use mathlib.Core.Path.{◌∙◌}
use native.Mathlib.Omega.{arith}
use mir.Syntax.{w32, w64}
use mir.ValLaws.{to_z-of_z}
use Rattle.words.proofs.Stores.{signed_bits}
use Rattle.words.proofs.signed.Goals as goal

pub returns : goal.returns
returns c =
    to_z-of_z w64 _ (search rules)
    ∙ c.from.ensures
    ∙ to_z-of_z w32 _ (search rules)
    ∙ c.cast_signed.ensures
    ∙ signed_bits c.args.w (omega arith)
