-- `next_record` meets its contract: a record has its name's bytes and four more.
-- Assumes nothing.
use mathlib.Core.Path.{refl}
use Prim.Native.Nat.{◌+◌}
use native.Mathlib.Omega.{arith}
use lib.ListN.{get_or, length-drop}
use Rattle.eqn_names.specs.RecordsLaws.{front_named, front_absent, behind_first}
use Rattle.eqn_names.proofs.next_record.Goals as goal

pub returns-then-s-lt5-clause-stepped : goal.returns-then-s-lt5-clause-stepped
returns-then-s-lt5-clause-stepped c =
    let s = c.args.s.now in
    front_absent s (λ f. omega (arith, f.least, f.room, length-drop 1 s))

pub returns-then-s-bytes-clause-stepped : goal.returns-then-s-bytes-clause-stepped
returns-then-s-bytes-clause-stepped c =
    let s = c.args.s.now in
    front_absent s (λ f. omega (arith, f.room, length-drop 1 s))

pub returns-clause-stepped : goal.returns-clause-stepped
returns-clause-stepped c =
    let s = c.args.s.now in
    let n = get_or s 0 0 in (
      omega (arith, c.if-s-bytes.false),
      λ m there.
          rw (behind_first s {i = n + 1} n refl, behind_first s {i = n + 1 + 1} (n + 1) refl, behind_first s {i = n + 1 + 2} (n + 2) (omega arith))
          (front_named s there),
    )

pub returns-clause-read : goal.returns-clause-read
returns-clause-read c =
    let s = c.args.s.now in
    let n = get_or s 0 0 in
    (refl, rw (behind_first s {i = n + 1} n refl, behind_first s {i = n + 1 + 1} (n + 1) refl, behind_first s {i = n + 1 + 2} (n + 2) (omega arith)))
