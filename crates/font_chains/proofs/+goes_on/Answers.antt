-- `goes_on` takes the steps of `goes_on`: one call is one symbol, by the record that was found (`read_none`, `read_some`).
-- Assumes nothing.
use Rattle.std.proofs.Common.{arith, sym, ◌∙◌}
use Rattle.font.specs.Records.{successor_byte}
use Rattle.font.specs.Font.{font_with, metrics_of}
use Rattle.font.specs.Chains.{goes_on}
use Rattle.font.specs.MetricsLaws.{successor_some, successor_none}
use Rattle.font.proofs.LookupLaws.{read_none, read_some}
use Rattle.font_chains.proofs.ChainLaws.{goes_none, goes_last, goes_step}
use Rattle.font_chains.proofs.+goes_on.Goals as goal

pub returns-in_default : goal.returns-in_default
returns-in_default t c =
    let a = c.args.tables.now in
    let k = c.args.like.now in
    let absent = read_none a.ours.now a.client.now k.size k.family c.args.code a.sound c.in_default.ensures in
    rw absent (sym (goes_none (font_with a.ours.now a.client.now) k.size k.family c.args.steps))

pub returns-then-steps-eq0 : goal.returns-then-steps-eq0
unfolding goes_on
returns-then-steps-eq0 t c =
    let a = c.args.tables.now in
    let k = c.args.like.now in
    let found = read_some a.ours.now a.client.now k.size k.family c.args.code a.sound c.in-Some.ensures in
    rw (found, c.if-steps-eq0.true)

pub returns-then-r-ne1 : goal.returns-then-r-ne1
unfolding metrics_of
returns-then-r-ne1 t c =
    let a = c.args.tables.now in
    let k = c.args.like.now in
    let r = c.in-Some.r.now in
    let found = read_some a.ours.now a.client.now k.size k.family c.args.code a.sound c.in-Some.ensures in
    rw found
    (sym (goes_last (font_with a.ours.now a.client.now) k.size k.family c.args.steps (metrics_of r) (omega arith) (successor_none r c.if-r-ne1.true)))

pub returns : goal.returns
unfolding metrics_of
returns t c =
    let a = c.args.tables.now in
    let k = c.args.like.now in
    let r = c.in-Some.r.now in
    let found = read_some a.ours.now a.client.now k.size k.family c.args.code a.sound c.in-Some.ensures in
    rw found
    (c.goes_on.ensures
    ∙ sym (goes_step (font_with a.ours.now a.client.now) k.size k.family c.args.steps (metrics_of r) (successor_byte r) (omega arith) (successor_some r c.if-r-ne1.false)))
