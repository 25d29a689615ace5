-- `pass` meets its contract: the invariant of its loop is `Walking`, and each turn of it is `turn`.
-- Assumes nothing.
use mathlib.Core.Path.{◌≡◌, sym, ◌∙◌, subst}
use mathlib.Core.List.{List}
use Prim.Native.Nat.{ℕ, suc}
use native.Mathlib.Omega.{arith}
use lib.ListN.{replicate, length-replicate}
use Rattle.eqn_check.specs.declared.stages.Stage.{Stage}
use Rattle.eqn_check.specs.declared.stages.Stage.TheVariants.{Unseen}
use Rattle.eqn_check.specs.declared.stages.Step.{Step}
use Rattle.eqn_tokens.specs.declared.tokens.Token as code
use Rattle.eqn_tokens.specs.Values.{TokenAt}
use Rattle.eqn_check.specs.Stages.{step_of}
use Rattle.eqn_check.specs.Windows.{levels}
use Rattle.eqn_check.proofs.Slots.{slot_small}
use Rattle.eqn_check.proofs.Walking.{Walking, walking_begun, Outcome, turn, Moving, moving}
use Rattle.eqn_check.proofs.windows.pass.Goals as goal

pub loop-fault-init : goal.loop-fault-init
loop-fault-init c =
    let args = c.args in
    subst (λ (x : Stage). Walking args.text.now args.base (replicate (suc levels) Unseen) x 0 0 0) (sym c.fresh-stage.ensures)
    (walking_begun args.text.now args.base (replicate (suc levels) Unseen) (length-replicate (suc levels) Unseen))

-- what is known behind the token, by what it does
after : {s : List ℕ} {base : ℕ} {A : List Stage} {stage : Stage} {depth deepest at : ℕ} {t : code.Token} {r step : Step} →
    Walking s base A stage depth deepest at → TokenAt s at t → r ≡ step_of t.kind stage depth → r ≡ step →
    Outcome s base A stage depth deepest t step
after {s} {base} {A} {stage} {depth} {deepest} {at} {t} walking found steps is =
    subst (Outcome s base A stage depth deepest t) (sym steps ∙ is) (turn walking found)

-- it has bytes, where the text goes on
behind : {s : List ℕ} {at : ℕ} {t : code.Token} (stage : Stage) (depth : ℕ) {r step : Step} → TokenAt s at t → r ≡ step_of t.kind stage depth → r ≡ step →
    Moving step depth t.start t.end
behind {s} {at} {t} stage depth found steps is =
    subst (λ (x : Step). Moving x depth t.start t.end) (sym steps ∙ is) (moving t.kind stage depth t.start t.end found.some)

pub returns-in-Stuck : goal.returns-in-Stuck
unfolding Outcome
returns-in-Stuck c =
    after c.loop-fault.invariant c.token_at-token.ensures c.token_step.ensures c.in-Stuck.is

pub returns-in-Whole : goal.returns-in-Whole
unfolding Outcome
returns-in-Whole c =
    after c.loop-fault.invariant c.token_at-token.ensures c.token_step.ensures c.in-Whole.is

pub offset_bounds-stages-i : goal.offset_bounds-stages-i
offset_bounds-stages-i c = omega (arith, slot_small _ _ _ c.slot-i.ensures)

pub bounds-stages-i : goal.bounds-stages-i
bounds-stages-i c = omega (arith, slot_small _ _ _ c.slot-i.ensures)

pub overflow_add-depth : goal.overflow_add-depth
overflow_add-depth c =
    let found = c.token_at-token.ensures in
    let inv = c.loop-fault.invariant in
    omega (arith, behind c.loop-fault.stage c.loop-fault.depth c.token_at-token.ensures c.token_step.ensures c.in-In.is, found.behind, found.within, inv.deep, inv.low)

pub overflow_sub-depth : goal.overflow_sub-depth
overflow_sub-depth c =
    (behind c.loop-fault.stage c.loop-fault.depth c.token_at-token.ensures c.token_step.ensures c.in-Out.is).1

pub offset_bounds-stages-i-in-Out : goal.offset_bounds-stages-i-in-Out
offset_bounds-stages-i-in-Out c = omega (arith, slot_small _ _ _ c.slot-i-in-Out.ensures)

pub bounds-stages-i-in-Out : goal.bounds-stages-i-in-Out
bounds-stages-i-in-Out c = omega (arith, slot_small _ _ _ c.slot-i-in-Out.ensures)

pub loop-fault-smaller-in-On : goal.loop-fault-smaller-in-On
loop-fault-smaller-in-On c =
    let found = c.token_at-token.ensures in
    omega (arith, behind c.loop-fault.stage c.loop-fault.depth c.token_at-token.ensures c.token_step.ensures c.in-On.is, found.behind, found.within)

pub loop-fault-preserved-in-On : goal.loop-fault-preserved-in-On
unfolding Outcome
loop-fault-preserved-in-On c =
    after c.loop-fault.invariant c.token_at-token.ensures c.token_step.ensures c.in-On.is

pub loop-fault-smaller-in-In : goal.loop-fault-smaller-in-In
loop-fault-smaller-in-In c =
    let found = c.token_at-token.ensures in
    omega (arith, behind c.loop-fault.stage c.loop-fault.depth c.token_at-token.ensures c.token_step.ensures c.in-In.is, found.behind, found.within)

pub loop-fault-preserved-in-In : goal.loop-fault-preserved-in-In
unfolding Outcome
loop-fault-preserved-in-In c =
    rw (c.fresh-stage-in-In.ensures, c.max-deepest.ensures, c.behind_primary.ensures, c.slot-i.ensures)
    (after c.loop-fault.invariant c.token_at-token.ensures c.token_step.ensures c.in-In.is)

pub loop-fault-smaller : goal.loop-fault-smaller
loop-fault-smaller c =
    let found = c.token_at-token.ensures in
    omega (arith, (behind c.loop-fault.stage c.loop-fault.depth c.token_at-token.ensures c.token_step.ensures c.in-Out.is).0, found.behind, found.within)

pub loop-fault-preserved : goal.loop-fault-preserved
unfolding Outcome
loop-fault-preserved c =
    rw c.slot-i-in-Out.ensures (after c.loop-fault.invariant c.token_at-token.ensures c.token_step.ensures c.in-Out.is)
