-- `record_tried` takes a record whose key has the symbol's number (`handed_back`), and else looks it up.
-- Assumes nothing.
use mathlib.Core.Path.{sym, ◌∙◌}
use borrow.Author.Rules.{rules}
use native.Mathlib.Omega.{arith}
use Prim.Native.Nat.{◌<◌}
use Rattle.font.specs.Keys.{Bytes}
use Rattle.font.specs.RecordsLaws.{count}
use Rattle.font.proofs.KeyLaws.{number_in}
use Rattle.font_search.proofs.HalvingLaws.{handed_back}
use Rattle.font_search.proofs.record_tried.Goals as goal

pub returns-then-other-number : goal.returns-then-other-number
returns-then-other-number c =
    let a = c.args in
    let r = c.record_at-r in
    let b : Bytes a.key.family a.key.code = record { family_byte_lem = search rules; code_byte_lem = search rules } in
    let same = sym (number_in c.of.ensures) ∙ sym c.number-other.ensures.0 ∙ c.if-other-number.true ∙ c.number.ensures.0 in
    let inside : a.number < count a.s.now = omega (arith, c.if-number-count.true, c.count.ensures) in
    handed_back a.s.now c.requires c.type_inv.s a.key b a.number inside a.s.ref_ptr r.ensures.result_value r.ensures.ref_ptr_value same
