-- `are_small` tests every word, the invariant being `Passing` of `good_word`.
use mathlib.Core.Path.{refl, sym, ap}
use mathlib.Core.Bool.{◌&&◌}
use Prim.Native.Nat.{ℕ, ◌+◌, ◌*◌}
use native.Mathlib.Nat.{add-zero, sub-zero}
use native.Mathlib.Omega.{arith}
use lib.ListN.{drop}
use Rattle.font.specs.Records.{word_bytes, every, good_word, words}
use Rattle.font.specs.Reading.{again, finished}
use Rattle.font_records.proofs.are_small.Invariants.{small_words}
use Rattle.font_records.proofs.are_small.Goals as goal

pub loop-k-init : goal.loop-k-init
loop-k-init c = record { passed = omega arith; rest = simp (sub-zero, add-zero) }

pub loop-k-preserved : goal.loop-k-preserved
unfolding every words
loop-k-preserved c =
    let l = c.loop-k in
    let a = c.args in
    let here = drop (a.at + word_bytes * l.k) a.s.now in
    again l.invariant small_words word_bytes (good_word c.word-w.result) (omega arith) (omega arith)
    (λ m left. ap (λ (w : ℕ). good_word w && small_words m (drop word_bytes here)) (sym c.word-w.ensures))

pub returns : goal.returns
unfolding every words
returns c = sym (finished c.loop-k.invariant c.loop-k-test.false (λ u. refl))
