-- No refusal has the number of an acceptance. Assumes nothing.
use Rattle.std.specs.Prelude.{ℕ, ◌<◌}
use Rattle.std.proofs.Common.{arith}
use Rattle.layout_answers.specs.declared.Refusal.{Refusal}
use Rattle.layout_answers.specs.declared.Refusal.TheVariants.{NoStyle, BadTable, BadClient, FewWords, Unreadable, TooDeep, Missing, TooLarge, NoRoom}
use Rattle.layout_answers.specs.Values.{refusal_as}

pub refuses : (r : Refusal) → 0 < (refusal_as r).number
refuses NoStyle = omega arith
refuses BadTable = omega arith
refuses BadClient = omega arith
refuses FewWords = omega arith
refuses (Unreadable place) = omega arith
refuses (TooDeep place) = omega arith
refuses (Missing place) = omega arith
refuses TooLarge = omega arith
refuses NoRoom = omega arith
