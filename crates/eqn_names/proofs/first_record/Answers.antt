-- `first_record` meets its contract: what the search finds from the loop's place on, it finds from where it began.
-- Assumes nothing.
use Rattle.std.specs.Prelude.{Some, None}
use Rattle.eqn_names.specs.Search.{ended, stopped, picked, passed}
use Rattle.eqn_names.proofs.WalkLaws.{step_told, name_bytes}
use Rattle.eqn_names.proofs.first_record.Goals as goal

pub loop-at-init : goal.loop-at-init
loop-at-init g c = λ o found. found

pub returns-in_err-record : goal.returns-in_err-record
returns-in_err-record g c =
    rw c.from_residual.ensures (c.loop-at.invariant None (stopped c.loop-at-test.true (step_told None c.loop-at.at c.args.names.now c.in_err-record.ensures.stepped)))

pub returns-then-picks : goal.returns-then-picks
returns-then-picks g c =
    c.loop-at.invariant _
    (picked c.in_ok-record.record c.loop-at-test.true (step_told (Some c.in_ok-record.record) c.loop-at.at c.args.names.now c.in_ok-record.ensures.stepped)
    (_, name_bytes c.args.names.now c.loop-at.at c.in_ok-record.record.bytes, c.if-picks.ensures))

pub loop-at-preserved : goal.loop-at-preserved
loop-at-preserved g c =
    λ o found.
    c.loop-at.invariant o
    (passed c.in_ok-record.record c.loop-at-test.true (step_told (Some c.in_ok-record.record) c.loop-at.at c.args.names.now c.in_ok-record.ensures.stepped)
    (_, name_bytes c.args.names.now c.loop-at.at c.in_ok-record.record.bytes, c.if-picks.ensures) found)

pub returns : goal.returns
returns g c = c.loop-at.invariant None (ended c.loop-at-test.false)
