-- `hash` meets its contract: what is left to mix is behind the loop's place.
-- Assumes nothing.
use mathlib.Core.Path.{sym, ap, ◌∙◌}
use Prim.Native.Nat.{ℕ, ◌+◌}
use native.Mathlib.Omega.{arith}
use lib.ListN.{drop, drop_of_length-le}
use Rattle.eqn_names.specs.Firsts.{hash_from}
use Rattle.eqn_names.proofs.FirstsLaws.{hash_here}
use Rattle.eqn_names.proofs.hash.Goals as goal

pub loop-b-preserved : goal.loop-b-preserved
loop-b-preserved c =
    let name = c.args.name.now in
    let i = c.loop-b.b-index in
    let h = c.loop-b.h in
    (omega (arith, c.mixed-h.ensures), c.loop-b.invariant.1 ∙ hash_here h name i (omega arith) ∙ ap (λ (k : ℕ). hash_from k (drop (i + 1) name)) (sym c.mixed-h.ensures))

pub returns : goal.returns
unfolding hash_from
returns c = (
  sym (c.loop-b.invariant.1 ∙ ap (hash_from c.loop-b.h) (drop_of_length-le c.args.name.now c.loop-b-test.false)),
  c.loop-b.invariant.0,
)
