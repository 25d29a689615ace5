-- One byte more has been stored, or has no room. Assumes nothing.
use mathlib.Core.Path.{◌≡◌, sym, ◌∙◌}
use Prim.Native.Nat.{◌+◌}
use native.Mathlib.Omega.{arith}
use lib.ListN.{get_or, set}
use Rattle.eqn_write.proofs.StoreLaws.{set_past, sets_more}
use Rattle.eqn_write.proofs.tokens.put_bytes.Goals as goal
use Rattle.eqn_write.proofs.tokens.put_bytes.Goals.{then-at-i, else-at-i}

pub loop-i-preserved : goal.loop-i-preserved
loop-i-preserved c =
    let a = c.args in
    let i = c.loop-i.i in
    let stored = sets_more a.out.now a.at a.bytes.now i (omega arith) in
    let all : c.if-at-i.out ≡ set c.loop-i.out (a.at + i) (get_or a.bytes.now i 0) =
    elim c.if-at-i.branch [
      | then-at-i w ↦ w.out-is
      | else-at-i w ↦ w.out-is ∙ sym (set_past c.loop-i.out (a.at + i) (get_or a.bytes.now i 0) w.if-at-i.false)
    ] in
    all ∙ rw c.loop-i.invariant stored
