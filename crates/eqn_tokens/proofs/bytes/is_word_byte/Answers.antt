-- `is_word_byte` meets its contract: no brace is neither the one nor the other.
-- Assumes nothing.
use mathlib.Core.Path.{◌≡◌, refl}
use mathlib.Core.Bool.{Bool, true, false, not, ◌&&◌, ◌||◌}
use lib.Dec.{leb, eqb}
use Rattle.eqn_tokens.specs.Bytes.{opening_brace, closing_brace}
use Rattle.eqn_tokens.proofs.bytes.is_word_byte.Goals as goal

in_turn_lem : (a b o c : Bool) → (a && b && not o && not c) ≡ (a && b && not (o || c))
in_turn_lem false b o c = refl
in_turn_lem true false o c = refl
in_turn_lem true true true c = refl
in_turn_lem true true false c = refl

pub returns : goal.returns
returns c = let b = c.args.b in in_turn_lem (leb 33 b) (leb b 126) (eqb b opening_brace) (eqb b closing_brace)
