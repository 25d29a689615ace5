-- What a C caller is given: the answer's number as the result, and words.
--     if_space         what becomes of a result, of the words or of a buffer where the lent answer has so many words; with fewer nothing is
--                     done, and the number is `no_answer`
--     answer_space     the words of an answer that has a size, or reasons
--     report_words     the two words of an answer of a call that writes bytes: its place and how many were written, and behind them what was
--                     there
-- Assumes nothing.
use Rattle.std.specs.Prelude.{cond, List, ◌∷◌, ℕ, leb, ℤ, pos, length, drop}
use Rattle.results.specs.Results.{Answered}

abbrev pub no_answer : ℕ
no_answer = 255

abbrev pub answer_space : ℕ
answer_space = 5

abbrev pub report_space : ℕ
report_space = 2

unfoldable pub if_space : {A : Type 0} → ℕ → List ℤ → A → A → A
if_space space w a b = cond (leb space (length w)) a b

unfoldable pub report_words : Answered → List ℤ → List ℤ
report_words a w = pos a.place ∷ pos a.bytes ∷ drop report_space w
