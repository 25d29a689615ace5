-- `number_of` counts the ones of the words before the symbol's, and in its own those below its bit (`Counting`).
-- Assumes nothing.
use mathlib.Core.Path.{ap, ap₂, ◌∙◌}
use Prim.Native.Nat.{ℕ, ◌+◌, ◌≤◌}
use native.Mathlib.Omega.{arith}
use lib.Count.{ones, ones-le}
use lib.ListN.{get_or}
use Rattle.font_index.specs.Index.{codes_in_word, ones_below}
use Rattle.font_index.proofs.ReadingLaws.{counting_start, counting_more, counted_last}
use Rattle.font_index.proofs.number_of.Goals as goal

pub loop-word-init : goal.loop-word-init
loop-word-init c =
    let k = c.args.key in
    counting_start c.args.index.now k.size k.family c.from-last.result c.group_at-group.result c.group_at-group.ensures c.requires.3

pub loop-word-preserved : goal.loop-word-preserved
loop-word-preserved c =
    let at = c.group_at-group.result + c.loop-word.word in
    let few : ones (get_or c.args.index.now at 0) ≤ codes_in_word = ones-le 64 (get_or c.args.index.now at 0) (omega (arith, c.type_inv.index at)) in
    let l = c.loop-word in
    let k = c.args.key in
    rw c.from-number.ensures
    (counting_more c.args.index.now k.size k.family c.from-last.result c.group_at-group.result c.group_at-group.ensures l.number l.word few (omega arith) l.invariant)

pub returns : goal.returns
returns c =
    let l = c.loop-word in
    let k = c.args.key in
    let group = c.group_at-group.result in
    ap (λ (n : ℕ). l.number + n)
    (c.ones_below.ensures.0 ∙ ap₂ (λ (w b : ℕ). ones_below (get_or c.args.index.now (group + w) 0) b) c.from-last.ensures c.from.ensures)
    ∙ counted_last c.args.index.now k.size k.family k.code group c.group_at-group.ensures l.number l.word (rw c.from-last.ensures at c.loop-word-test.false)
    (rw c.from-last.ensures at l.invariant)
