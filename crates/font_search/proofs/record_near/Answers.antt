-- `record_near` hands back the client's record if it has one (`client_hands`), and else ours (`our_hands`), which stand behind the
-- PA records (`ours_alone`).
-- Assumes nothing.
use native.Mathlib.Omega.{arith}
use Rattle.font.specs.FontLaws.{whole_records, sound_client, sound_ours}
use Rattle.font.proofs.LookupLaws.{client_hands, our_hands}
use Rattle.font_search.proofs.record_near.Goals as goal

pub record_in-requires : goal.record_in-requires
record_in-requires c = sound_client c.args.tables.client.now c.args.tables.sound.client

pub our_records-requires : goal.our_records-requires
our_records-requires c = omega (arith, whole_records c.args.tables.ours.now c.args.tables.sound.ours)

pub record_tried-requires : goal.record_tried-requires
record_tried-requires c = rw c.our_records.ensures.result_value (sound_ours c.args.tables.ours.now c.args.tables.sound.ours)

pub returns-in-Some : goal.returns-in-Some
returns-in-Some c =
    let t = c.args.tables in
    let k = c.args.key in
    client_hands t.ours.now t.client.now k.size k.family k.code t.ours.ref_ptr t.client.ref_ptr c.in-Some.ensures

pub returns-in-None : goal.returns-in-None
returns-in-None c =
    let t = c.args.tables in
    let k = c.args.key in
    our_hands t.ours.now t.client.now k.size k.family k.code t.ours.ref_ptr t.client.ref_ptr c.record_tried.result c.our_records.result
    c.our_records.ensures.result_value c.our_records.ensures.ref_ptr_value c.in-None.ensures c.record_tried.ensures
