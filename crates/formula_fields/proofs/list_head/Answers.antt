-- `list_head` meets its contract: of a list's kind, the number of the first bytes, held against the lengths that two bytes hold, where they
-- are four, and against the bytes behind them.
-- Assumes nothing.
use mathlib.Core.Path.{◌≡◌, sym, ◌∙◌}
use mathlib.Core.Logic.{inl, inr}
use mathlib.Core.List.{List}
use Prim.Native.Nat.{ℕ, ◌+◌, ◌*◌, ◌≤◌, ◌<◌}
use native.Mathlib.Omega.{arith}
use lib.ListN.{length, get_or}
use Rattle.words.specs.Words.{little_endian}
use Rattle.formula.specs.Tree.{greatest_short}
use Rattle.formula_fields.proofs.FieldLaws.{past_kinds, ListKind, list_kind_lem, length_cut, long_short, Sized, list_in_lem, list_cut}
use Rattle.formula_fields.proofs.list_head.Goals as goal
use Rattle.formula_fields.proofs.list_head.Goals.{then-kind-eq-LONG_LIST_KIND+else-n-le-GREATEST_SHORT, else-kind-eq-LONG_LIST_KIND}

-- the length, by either way that it is found
sized_long : {kind bytes n m : ℕ} (s : List ℕ) → kind ≡ 3 → bytes ≡ 4 → n ≡ m → m ≡ little_endian 4 s → greatest_short < m →
    Sized kind bytes s n
sized_long s is four e word great = inr (is, four, e ∙ word, omega arith)

sized_short : {kind bytes n m : ℕ} (s : List ℕ) → ListKind kind bytes → (kind ≡ 3 → ⊥) → n ≡ m →
    (m ≡ get_or s 0 0 + 256 * get_or s 1 0) × (m ≤ greatest_short) → Sized kind bytes s n
sized_short s (inl k) other e m = inl (k.0, k.1, e ∙ m.0, omega arith)
sized_short s (inr k) other e m = absurd (other k.0)

pub returns-then-kind-gt-LONG_LIST_KIND : goal.returns-then-kind-gt-LONG_LIST_KIND
returns-then-kind-gt-LONG_LIST_KIND c = sym (past_kinds _ _ c.if-kind-gt-LONG_LIST_KIND.true)

pub returns-then-s-bytes : goal.returns-then-s-bytes
returns-then-s-bytes c =
    let kind_is : ListKind c.args.kind c.length_bytes-bytes.result = list_kind_lem _ _ (omega arith) (omega arith) c.length_bytes-bytes.ensures.0 c.length_bytes-bytes.ensures.1 in
    sym (length_cut _ _ _ (kind_is) c.if-s-bytes.true)

pub returns-then-n-le-GREATEST_SHORT : goal.returns-then-n-le-GREATEST_SHORT
returns-then-n-le-GREATEST_SHORT c =
    let four-there : 4 ≤ length c.args.s.now = omega (arith, c.length_bytes-bytes.ensures.0 c.if-kind-eq-LONG_LIST_KIND.true) in
    sym (long_short _ _ _ c.if-kind-eq-LONG_LIST_KIND.true (four-there) c.word-n.ensures c.if-n-le-GREATEST_SHORT.true)

pub returns-then-n-s : goal.returns-then-n-s
returns-then-n-s c =
    let a = c.args in
    let l = c.length_bytes-bytes in
    let kind_is : ListKind a.kind l.result = list_kind_lem _ _ (omega arith) (omega arith) l.ensures.0 l.ensures.1 in
    let sized : Sized a.kind l.result a.s.now c.if-kind-eq-LONG_LIST_KIND.n =
    elim c.if-kind-eq-LONG_LIST_KIND.branch [
      | then-kind-eq-LONG_LIST_KIND+else-n-le-GREATEST_SHORT w ↦
          let is = w.if-kind-eq-LONG_LIST_KIND.true in
          sized_long a.s.now is (l.ensures.0 is) w.n-is w.word-n.ensures w.if-n-le-GREATEST_SHORT.false
      | else-kind-eq-LONG_LIST_KIND w ↦ sized_short a.s.now kind_is w.if-kind-eq-LONG_LIST_KIND.false w.n-is w.short-n.ensures
    ] in
    sym (list_cut _ _ _ _ (omega arith) sized c.if-n-s.true)

pub returns : goal.returns
returns c =
    let a = c.args in
    let l = c.length_bytes-bytes in
    let kind_is : ListKind a.kind l.result = list_kind_lem _ _ (omega arith) (omega arith) l.ensures.0 l.ensures.1 in
    let sized : Sized a.kind l.result a.s.now c.if-kind-eq-LONG_LIST_KIND.n =
    elim c.if-kind-eq-LONG_LIST_KIND.branch [
      | then-kind-eq-LONG_LIST_KIND+else-n-le-GREATEST_SHORT w ↦
          let is = w.if-kind-eq-LONG_LIST_KIND.true in
          sized_long a.s.now is (l.ensures.0 is) w.n-is w.word-n.ensures w.if-n-le-GREATEST_SHORT.false
      | else-kind-eq-LONG_LIST_KIND w ↦ sized_short a.s.now kind_is w.if-kind-eq-LONG_LIST_KIND.false w.n-is w.short-n.ensures
    ] in
    sym (list_in_lem _ _ _ _ (omega arith) sized c.if-n-s.false)
