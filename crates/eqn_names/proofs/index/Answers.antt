-- `index` meets its contract: the records that the loop has passed are good and new (`Tested`), and kept by their hashes (`Indexed`).
-- Assumes nothing.
use mathlib.Core.Path.{◌≡◌, sym, ap, ◌∙◌}
use mathlib.Core.Bool.{Bool, not, ◌&&◌}
use mathlib.Core.List.{List, [], ◌∷◌, ◌++◌}
use Prim.Native.Nat.{ℕ, ◌+◌, ◌-◌, ◌≤◌, ◌<◌}
use native.Mathlib.Omega.{arith}
use borrow.Author.Rules.{rules}
use lib.ListN.{length, take, drop, get_or}
use Rattle.std.specs.Prelude.{Some, None, Err}
use Rattle.eqn_names.specs.declared.Record.{Record}
use Rattle.eqn_names.specs.Names.{Name, record_bytes, is_keyword, named, is_there, is_new}
use Rattle.eqn_names.specs.Firsts.{From, Listed, places, hash_of, kept}
use Rattle.eqn_names.proofs.WalkLaws.{front_told, name_at, name_bytes, Stands, stands}
use Rattle.eqn_names.proofs.TableLaws.{tested_none, tested_next, tested_bad, tested_old, tested_all, told_bad, told_good}
use Rattle.eqn_names.proofs.FirstsLaws.{indexed_none, indexed_next, indexed_all}
use Rattle.eqn_names.proofs.index.Goals as goal

pub loop-at-init : goal.loop-at-init
loop-at-init c =
    let s = c.args.names.now in
    let cleared : (h : ℕ) → h < places → get_or c.fill.new.self h 0 ≡ length s = λ h l. search rules in
    let long : length c.fill.new.self ≡ places = search rules in
    ([], tested_none s, indexed_none s c.fill.new.self long cleared)

-- what is kept of a good table
abbrev Known : List ℕ → List ℕ → List Name → Type 0
Known s f ns = Listed s f ns

-- the bytes of a record's name, as they are lent
abbrev lent : List ℕ → ℕ → Record → List ℕ
lent s at r = take (at + 1 + r.bytes - (at + 1)) (drop (at + 1) s)

asked_new : (s : List ℕ) (at : ℕ) (r : Record) (before : List Name) {t : Bool} →
    (not (is_keyword (lent s at r)) && not (is_there (named before (lent s at r)))) ≡ t → is_new before (name_at s at r) ≡ t
asked_new s at r before e = rw name_bytes at e

pub returns-in_err-record : goal.returns-in_err-record
returns-in_err-record c =
    let s = c.args.names.now in
    let at = c.loop-at.at in
    let none : c.front_record.result ≡ None = grind arith in
    let is : c.from_residual.result ≡ Err (record { place = at }) = grind arith in
    let both = told_bad s {Known = Known s c.loop-at.firsts}
    (tested_bad s c.loop-at.invariant.1 c.loop-at-test.true (front_told None at s (rw none at c.front_record.ensures))) in
    rw is (record { value = both.0; listed = both.1 })

pub overflow_add-end : goal.overflow_add-end
overflow_add-end c =
    let some : c.front_record.result ≡ Some c.in_ok-record.record = grind arith in
    let there : Stands c.args.names.now c.loop-at.at c.in_ok-record.record = stands c.loop-at-test.true (rw some at c.front_record.ensures) in
    omega (arith, there.room)

pub slice_bounds-hash-end : goal.slice_bounds-hash-end
slice_bounds-hash-end c =
    let some : c.front_record.result ≡ Some c.in_ok-record.record = grind arith in
    let there : Stands c.args.names.now c.loop-at.at c.in_ok-record.record = stands c.loop-at-test.true (rw some at c.front_record.ensures) in
    omega (arith, there.room)

pub returns-then-not-is_new : goal.returns-then-not-is_new
returns-then-not-is_new c =
    let loop = c.loop-at in
    let s = c.args.names.now in
    let some : c.front_record.result ≡ Some c.in_ok-record.record = grind arith in
    let there : Stands s loop.at c.in_ok-record.record = stands c.loop-at-test.true (rw some at c.front_record.ensures) in
    let from : From (take loop.at s) loop.invariant.0 (lent s loop.at c.in_ok-record.record) (get_or loop.firsts c.hash-h.result 0) = rw c.hash-h.ensures.0 (loop.invariant.2.from (lent s loop.at c.in_ok-record.record)) in
    let asked = asked_new s loop.at c.in_ok-record.record loop.invariant.0 (sym (c.is_new.ensures loop.invariant.0 from)) in
    let both = told_bad s {Known = Known s loop.firsts} (tested_old _ loop.invariant.1 there (asked ∙ c.if-not-is_new.true)) in
    record { value = both.0; listed = both.1 }

pub loop-at-preserved : goal.loop-at-preserved
loop-at-preserved c =
    let loop = c.loop-at in
    let s = c.args.names.now in
    let some : c.front_record.result ≡ Some c.in_ok-record.record = grind arith in
    let there : Stands s loop.at c.in_ok-record.record = stands c.loop-at-test.true (rw some at c.front_record.ensures) in
    let m = name_at s loop.at c.in_ok-record.record in
    let from : From (take loop.at s) loop.invariant.0 (lent s loop.at c.in_ok-record.record) (get_or loop.firsts c.hash-h.result 0) = rw c.hash-h.ensures.0 (loop.invariant.2.from (lent s loop.at c.in_ok-record.record)) in
    let asked = asked_new s loop.at c.in_ok-record.record loop.invariant.0 (sym (c.is_new.ensures loop.invariant.0 from)) in
    let hashed : c.hash-h.result ≡ hash_of m.bytes = c.hash-h.ensures.0 ∙ ap (λ (w : List ℕ). hash_of w) (name_bytes s loop.at c.in_ok-record.record.bytes) in
    let room : loop.at + record_bytes m ≤ length s = omega (arith, there.room, there.next) in
    let kept-is : c.keep.new.firsts ≡ kept loop.firsts (hash_of m.bytes) loop.at = c.keep.ensures ∙ ap (λ (h : ℕ). kept loop.firsts h loop.at) hashed in
    (loop.invariant.0 ++ (m ∷ []), tested_next _ loop.invariant.1 there (asked ∙ c.if-not-is_new.false), rw kept-is (rw there.next at (indexed_next loop.invariant.2 there.there room)))

pub returns : goal.returns
returns c =
    let loop = c.loop-at in
    let s = c.args.names.now in
    let both = told_good s (Known s loop.firsts) (tested_all _ loop.invariant.1 c.loop-at-test.false)
    (indexed_all loop.invariant.2 loop.invariant.1.records c.loop-at-test.false) in record { value = both.0; listed = both.1 }
