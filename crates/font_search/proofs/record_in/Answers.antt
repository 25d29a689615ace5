-- `record_in` halves the range in which the symbol's record can be (`Halved`). That its count of steps never falls below 0 says that
-- twelve are enough (`twelve_enough`, `has_step`); what a step leaves, and what is found, is said in `HalvingLaws`. Keys are compared
-- by their numbers.
-- Assumes nothing.
use mathlib.Core.Path.{sym, ap, ◌∙◌}
use Prim.Native.Nat.{◌+◌, ◌/◌, ◌<◌}
use native.Mathlib.Omega.{arith}
use Rattle.font.specs.Keys.{key_in}
use Rattle.font.specs.RecordsLaws.{count, few}
use Rattle.font.proofs.KeyLaws.{number, number_in}
use Rattle.font_search.proofs.HalvingLaws.{twelve_enough, middle, halved_whole, halved_right, halved_left, handed_back, halved_nowhere}
use Rattle.font_search.proofs.record_in.Goals as goal

pub loop-from-init : goal.loop-from-init
loop-from-init c =
    let s = c.args.s.now in
    rw c.count-to.ensures
    (halved_whole s c.requires c.type_inv.s (number c.args.key) 12 (omega (arith, twelve_enough (count s) (few s c.requires))))

pub returns-then-other-wanted : goal.returns-then-other-wanted
returns-then-other-wanted c =
    let a = c.args in
    let r = c.record_at-r in
    let l = c.loop-from in
    let wanted = c.number-wanted.ensures in
    let same = sym (number_in c.of.ensures) ∙ sym c.number-other.ensures.0 ∙ c.if-other-wanted.true ∙ wanted.0 in
    let m = (l.from + l.to) / 2 in
    let inside : m < count a.s.now = omega (arith, c.loop-from-test.true, l.invariant.within) in
    handed_back a.s.now c.requires c.type_inv.s a.key wanted.1 m inside a.s.ref_ptr r.ensures.result_value r.ensures.ref_ptr_value same

pub loop-from-preserved-then-other-wanted-2 : goal.loop-from-preserved-then-other-wanted-2
loop-from-preserved-then-other-wanted-2 c =
    let a = c.args in
    let l = c.loop-from in
    let is = number_in c.of.ensures ∙ ap key_in c.record_at-r.ensures.result_value in
    let less : key_in (middle a.s.now l.from l.to) < number a.key =
    rw (← is) (omega (arith, c.number-other.ensures.0, c.number-wanted.ensures.0, c.if-other-wanted-2.true)) in
    halved_right a.s.now c.requires c.type_inv.s (number a.key) l.from l.to l.steps c.loop-from-test.true l.invariant less

pub loop-from-preserved : goal.loop-from-preserved
loop-from-preserved c =
    let a = c.args in
    let l = c.loop-from in
    let is = number_in c.of.ensures ∙ ap key_in c.record_at-r.ensures.result_value in
    let greater : number a.key < key_in (middle a.s.now l.from l.to) =
    rw (← is) (omega (arith, c.number-other.ensures.0, c.number-wanted.ensures.0, c.if-other-wanted.false, c.if-other-wanted-2.false)) in
    halved_left a.s.now c.requires c.type_inv.s (number a.key) l.from l.to l.steps c.loop-from-test.true l.invariant greater

pub returns : goal.returns
returns c =
    let a = c.args in
    let l = c.loop-from in
    (halved_nowhere a.s.now c.requires c.type_inv.s a.key.size a.key.family a.key.code c.number-wanted.ensures.1 l.from l.to l.steps c.loop-from-test.false l.invariant).bytes
