-- `close_list` meets its contract: the bytes are those of the opening (`opening_short`, `opening_long`).
-- Assumes nothing.
use mathlib.Core.Path.{◌≡◌, refl, ◌∙◌}
use Prim.Native.Nat.{◌+◌, ◌-◌}
use native.Mathlib.Omega.{arith}
use Rattle.eqn_stores.proofs.OpeningLaws.{opening_short, opening_long}
use Rattle.eqn_stores.proofs.close_list.Goals as goal

pub returns-then-n-le-GREATEST_SHORT : goal.returns-then-n-le-GREATEST_SHORT
returns-then-n-le-GREATEST_SHORT c =
    let n = c.args.end - (c.args.at + 3) in (
      λ short. record { ends = (refl, c.requires.1); stored = c.put_bytes.ensures.out_after ∙ rw (opening_short n short) },
      λ long. absurd (omega arith),
    )

pub returns : goal.returns
returns c =
    let at = c.args.at in
    let onward : at + 3 + 2 ≡ at + 5 = omega arith in
    let n = c.args.end - (at + 3) in (
      λ short. absurd (omega arith),
      λ long. record { ends = c.up_to.ensures; stored = c.put_bytes-2.ensures.out_after ∙ rw (c.move_behind.ensures, onward, opening_long n long (omega arith)) },
    )
