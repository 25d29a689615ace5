-- `number` meets its contract: the word is turned round (`turned_read`), and no word is far from zero.
-- Assumes nothing.
use mathlib.Core.Path.{◌≡◌, ap, ◌∙◌}
use Prim.Native.Nat.{◌≤◌}
use native.Mathlib.Omega.{arith}
use lib.ListN.{length, drop, length-drop}
use lib.Seq.{get_or-drop}
use Rattle.words.specs.Words.{signed_word}
use Rattle.words.specs.WordLaws.{Bytes}
use Rattle.dvi.specs.NumberLaws.{turned_read, big_within}
use Rattle.dvi.specs.Forms.{body_number}
use Rattle.dvi_body.proofs.number.Goals as goal

pub returns : goal.returns
returns c =
    let s = c.args.s.now in
    let at = c.args.at in
    let byte : Bytes (drop at s) = λ i. rw (get_or-drop at s i 0) (c.type_inv.s _) in
    let room : 4 ≤ length (drop at s) = rw (length-drop at s) (omega arith) in
    let is : c.signed.result.0 ≡ body_number at s =
    c.signed.ensures ∙ ap signed_word (c.turned.ensures ∙ rw c.word.ensures (turned_read (drop at s) room byte)) in
    let near = big_within (drop at s) room byte in
    (is, rw is (omega arith))
