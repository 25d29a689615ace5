-- `record_of` hands back the client's record if its index has one (`client_hands`), and else ours (`our_hands`), which stand behind
-- the PA records (`ours_alone`).
-- Assumes nothing.
use native.Mathlib.Omega.{arith}
use Rattle.font.specs.FontLaws.{whole_records, sound_client, ours_alone, sound_ours}
use Rattle.font.proofs.LookupLaws.{client_hands, our_hands}
use Rattle.font_index.proofs.record_of.Goals as goal

pub record_by-requires : goal.record_by-requires
record_by-requires c = (sound_client c.args.client.now c.requires.tables.client, c.requires.client)

pub our_records-requires : goal.our_records-requires
our_records-requires c = omega (arith, whole_records c.args.table.now c.requires.tables.ours)

pub record_by-requires-in-None : goal.record_by-requires-in-None
record_by-requires-in-None c =
    let t = c.args.table.now in
    rw c.our_records.ensures.result_value (sound_ours t c.requires.tables.ours, rw ours_alone c.requires.ours)

pub returns-in-Some : goal.returns-in-Some
returns-in-Some c =
    let a = c.args in
    let k = a.key in
    client_hands a.table.now a.client.now k.size k.family k.code a.table.ref_ptr a.client.ref_ptr c.in-Some.ensures

pub returns-in-None : goal.returns-in-None
returns-in-None c =
    let a = c.args in
    let k = a.key in
    our_hands a.table.now a.client.now k.size k.family k.code a.table.ref_ptr a.client.ref_ptr c.record_by-in-None.result c.our_records.result
    c.our_records.ensures.result_value c.our_records.ensures.ref_ptr_value c.in-None.ensures c.record_by-in-None.ensures
