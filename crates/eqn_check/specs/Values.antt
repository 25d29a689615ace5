-- What the test of a text answers: the place of the first token that can continue no text of the grammar, or of the end.
-- Assumes nothing.
use Rattle.std.specs.Prelude.{List, ℕ, Result, Ok, Err}
use Rattle.eqn_tokens.specs.Tokens.{place_in}
use Rattle.eqn_check.specs.declared.StuckAt.{StuckAt}
use Rattle.eqn_grammar.specs.Parsing.{Parsed, whole, stuck}

abbrev pub Tested : Type 0
Tested = Result (Unit {0}) StuckAt

abbrev pub stuck_at : ℕ → Tested
stuck_at place = Err (record { place = place })

abbrev pub tested_as : List ℕ → Parsed → Tested
tested_as s (whole r) = Ok tt
tested_as s (stuck n) = stuck_at (place_in n s)
