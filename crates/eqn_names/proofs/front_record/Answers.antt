-- `front_record` meets its contract: its tests are those of `WellFormed`, at the places of the record.
-- Assumes nothing.
use mathlib.Core.Path.{◌≡◌, sym, ap, ◌∙◌}
use mathlib.Core.Bool.{true, false≢true, ◌&&◌}
use mathlib.Core.List.{List}
use mathlib.Core.Option.{some}
use Prim.Native.Nat.{ℕ, ◌+◌, ◌-◌}
use native.Mathlib.Omega.{arith}
use borrow.Author.Tests.{ne_eqb, eqb-false, le-ltb, ltb-false, le-leb, leb-true}
use lib.Dec.{leb, eqb}
use lib.ListN.{get_or, take, drop, length-drop}
use Rattle.laws.specs.Truths.{both_true, true_both, both_false}
use Rattle.eqn_tokens.specs.Bytes.{all_word_bytes}
use Rattle.formula.specs.Heads.{greatest_family, greatest_class}
use Rattle.eqn_names.specs.declared.Record.{Record}
use Rattle.eqn_names.specs.Names.{Name, longest_name}
use Rattle.eqn_names.specs.RecordsLaws.{WellFormed, front_there, front_absent}
use Rattle.eqn_names.specs.Values.{RecordRead}
use Rattle.std.specs.Prelude.{Some}
use Rattle.eqn_names.proofs.front_record.Goals as goal

-- the tests, of what was read
abbrev told : List ℕ → Record → Type 0
told s r =
    ((leb r.symbol.family greatest_family && leb r.symbol.class greatest_class) && all_word_bytes (take (r.bytes + 1 - 1) (drop 1 s))) ≡ true

-- the bytes at the places of the record
record Read (s : List ℕ) (r : Record) : Type 0 where
  family : r.symbol.family ≡ get_or (drop 1 s) (get_or s 0 0) 0
  class : r.symbol.class ≡ get_or (drop 1 s) (get_or s 0 0 + 2) 0
  name : take (r.bytes + 1 - 1) (drop 1 s) ≡ take (get_or s 0 0) (drop 1 s)

read : (s : List ℕ) (r : Record) → RecordRead s (Some r) → Read s r
read s r f =
    let long : r.bytes + 1 - 1 ≡ get_or s 0 0 = omega (arith, f.0) in
    record {
      family = ap (λ (m : Name). m.family) f.1;
      class = ap (λ (m : Name). m.class) f.1;
      name = ap (λ (n : ℕ). take n (drop 1 s)) long;
    }

formed_told : (s : List ℕ) (r : Record) → RecordRead s (Some r) → WellFormed (get_or s 0 0) (drop 1 s) → told s r
formed_told s r f w =
    let b = read s r f in
    rw (b.family, b.class, b.name) (true_both (true_both (le-leb _ _ w.family) (le-leb _ _ w.class)) w.words)

pub returns-in_err-record : goal.returns-in_err-record
returns-in_err-record c = rw c.from_residual.ensures (sym c.in_err-record.ensures.stepped)

pub returns-then-record : goal.returns-then-record
returns-then-record c =
    let n = c.in_ok-record.record.bytes in
    let is = c.in_ok-record.ensures.read.0 in
    sym
    (front_absent c.args.s.now
    (λ f. false≢true (rw (ne_eqb n 0 (λ e. omega (arith, f.least, e)), le-ltb longest_name n (omega (arith, f.most))) at c.if-record.true)))

pub returns-then-is_symbol-are_word_bytes : goal.returns-then-is_symbol-are_word_bytes
returns-then-is_symbol-are_word_bytes c =
    let s = c.args.s.now in
    let r = c.in_ok-record.record in
    let f = c.in_ok-record.ensures.read in
    let b = read s r f in
    let small = both_false {p = eqb r.bytes 0} c.if-record.false in
    let tests : told s r = rw (← c.is_symbol.ensures, ← c.are_word_bytes.ensures) c.if-is_symbol-are_word_bytes.true in
    let both = both_true {p = leb r.symbol.family greatest_family && leb r.symbol.class greatest_class} tests in
    let symbol = both_true {p = leb r.symbol.family greatest_family} both.0 in
    let family = leb-true _ _ symbol.0 in
    let class = leb-true _ _ symbol.1 in
    ap some f.1
    ∙ sym
    (front_there s
    (record {
      least = omega (arith, f.0, eqb-false r.bytes 0 small.0);
      most = omega (arith, f.0, ltb-false longest_name r.bytes small.1);
      room = omega (arith, f.0, c.in_ok-record.ensures.stepped.0, length-drop 1 s);
      words = rw b.name at both.1;
      family = omega (arith, b.family, family);
      class = omega (arith, b.class, class);
    }))

pub returns : goal.returns
returns c =
    let s = c.args.s.now in
    sym
    (front_absent s
    (λ w.
    let tests : told s c.in_ok-record.record = formed_told s _ c.in_ok-record.ensures.read w in
    false≢true (sym (rw (← c.is_symbol.ensures, ← c.are_word_bytes.ensures) c.if-is_symbol-are_word_bytes.false) ∙ tests)))
