-- `mark_all` goes through the records from the last to the first (`MarkedFrom`, `marked_from`). Assumes nothing.
use mathlib.Core.Path.{◌≡◌, sym, ap, ◌∙◌}
use native.Mathlib.Omega.{arith}
use lib.ListN.{length}
use Rattle.font.specs.Records.{character_bytes}
use Rattle.font.specs.RecordsLaws.{recorded, record_at}
use Rattle.font.specs.LookupLaws.{all_whole}
use Rattle.font_build.proofs.BuildLaws.{marked_from_end, inside_count, mark_fits, marked_from}
use Rattle.font_build.proofs.mark_all.Goals as goal

pub loop-i-init : goal.loop-i-init
loop-i-init c = marked_from_end _ _ _ (recorded c.args.s.now ∙ sym c.count-i.ensures) c.requires.1

pub of-requires : goal.of-requires
of-requires c =
    let l = c.loop-i in
    let s = c.args.s.now in
    let inside = inside_count s c.requires.0 c.type_inv.s _ _ l.i c.loop-i-test.true l.invariant in
    let whole : length c.record_at.result.now ≡ character_bytes =
    ap length (c.record_at.ensures.result_value ∙ sym (record_at s _ inside)) ∙ all_whole s c.requires.0 _ (omega (arith, recorded s, inside)) in
    omega (arith, whole)

pub mark-requires : goal.mark-requires
mark-requires c =
    let l = c.loop-i in
    let fits = mark_fits c.args.s.now c.requires.0 c.type_inv.s _ _ l.i c.loop-i-test.true l.invariant c.of.result c.record_at.ensures.result_value c.of.ensures in
    (l.invariant.marked.long, fits.0, fits.1, fits.2)

pub loop-i-preserved : goal.loop-i-preserved
loop-i-preserved c =
    let l = c.loop-i in
    rw c.mark.ensures
    (marked_from c.args.s.now c.requires.0 c.type_inv.s _ _ l.i c.loop-i-test.true l.invariant c.of.result c.record_at.ensures.result_value c.of.ensures)
