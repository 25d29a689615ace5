-- `row` stores the words of one size: each word stored so far is that of its number, by `parameter_word`.
use mathlib.Core.Path.{◌≡◌, sym, ◌∙◌}
use Prim.Native.Nat.{ℕ, ◌<◌}
use native.Mathlib.Omega.{arith}
use borrow.Author.Count.{below_more}
use lib.Seq.{get_or-set_same, get_or-set_other}
use native.Mathlib.Decide.{dec_lt}
use lib.ListN.{get_or, get_or-eq_default}
use Rattle.font.specs.Records.{parameter_count}
use Rattle.font.specs.Font.{font_of}
use Rattle.font.proofs.WordLaws.{parameter_word, number_beyond}
use Rattle.font.proofs.row.Goals as goal

pub loop-number-preserved : goal.loop-number-preserved
loop-number-preserved c =
    let a = c.args in
    let v = c.loop-number in
    let w = c.word.result in
    let word = c.word.ensures ∙ sym (parameter_word a.table.now a.size v.number (omega arith) (omega arith)) in
    below_more _ v.number (λ m h. get_or-set_other v.word-items v.number m w 0 (omega arith) ∙ v.invariant m h)
    (get_or-set_same v.word-items v.number w 0 (omega arith) ∙ word)

pub returns : goal.returns
returns c = record { held = λ number. at number (dec_lt number parameter_count) }
  where
    at : (number : ℕ) → Dec (number < parameter_count) →
        get_or c.loop-number.word-items number 0 ≡ (font_of c.args.table.now).parameter c.args.size number
    at number (yes h) = c.loop-number.invariant number (omega arith)
    at number (no h) =
        get_or-eq_default c.loop-number.word-items 0 (omega arith)
        ∙ sym (number_beyond c.args.table.now c.args.size number (omega arith))
