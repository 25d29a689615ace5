-- What a C caller is given of an answer of measuring or setting: five words.
--     answer_words     an answer's place, its sizes and its count, and behind them what was there
-- Assumes nothing.
use Rattle.std.specs.Prelude.{List, ◌∷◌, ℤ, pos, drop}
use Rattle.answers.specs.Answers.{Answered}
use Rattle.c_words.specs.Words.{answer_space}

unfoldable pub answer_words : Answered → List ℤ → List ℤ
answer_words a w =
    pos a.place
    ∷ a.size.width
    ∷ a.size.height
    ∷ a.size.depth
    ∷ pos a.count
    ∷ drop answer_space w
