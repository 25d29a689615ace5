use mathlib.Core.Bool.{Bool}
use mathlib.Core.List.{List}
use Prim.Native.Nat.{ℕ, ◌+◌, ◌*◌}
use lib.ListN.{drop}
use Rattle.font.specs.Records.{word_bytes, every, good_word, words}
use Rattle.font.specs.Reading.{Passing}
use Rattle.font_records.proofs.are_small.Given as goal

abbrev pub small_words : ℕ → List ℕ → Bool
small_words n s = every good_word (words n s)

abbrev pub invariant-loop-k : goal.invariant-loop-k
invariant-loop-k l = Passing small_words (small_words l.n (drop l.at l.s)) l.n l.s (l.at + word_bytes * l.k) l.k l.small
