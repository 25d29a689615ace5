use mathlib.Core.Path.{◌≡◌}
use Prim.Native.Nat.{ℕ, ◌<◌}
use lib.ListN.{get_or}
use Rattle.font.specs.Font.{font_of}
use Rattle.font.proofs.row.Given as goal

abbrev pub invariant-loop-number : goal.invariant-loop-number
invariant-loop-number l = (m : ℕ) → m < l.number → get_or l.word-items m 0 ≡ (font_of l.table).parameter l.size m
