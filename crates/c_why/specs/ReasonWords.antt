-- What a C caller who asks why is given, request 7.
--     reason_word      the number of a reason
--     reason_words     the place, and what decided each shift with that shift, and behind them what was there
-- Assumes nothing.
use Rattle.std.specs.Prelude.{List, ◌∷◌, ℤ, pos, drop}
use Rattle.reasons.specs.declared.Reason.{Reason}
use Rattle.reasons.specs.declared.Reason.TheVariants.{None, Drop, Sigma, XHeight, Gap, Psi, Clearance}
use Rattle.answers.specs.Why.{WhyAnswered}
use Rattle.c_words.specs.Words.{answer_space}

abbrev pub reason_word : Reason → ℤ
reason_word None = pos 0
reason_word Drop = pos 1
reason_word Sigma = pos 2
reason_word XHeight = pos 3
reason_word Gap = pos 4
reason_word Psi = pos 5
reason_word Clearance = pos 6

unfoldable pub reason_words : WhyAnswered → List ℤ → List ℤ
reason_words e w =
    pos e.place
    ∷ reason_word e.reasons.up.by
    ∷ e.reasons.up.shift
    ∷ reason_word e.reasons.down.by
    ∷ e.reasons.down.shift
    ∷ drop answer_space w
