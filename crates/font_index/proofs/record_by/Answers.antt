-- `record_by` takes the record that the index gives (`lies_there`), or none (`lies_nowhere`). Assumes nothing.
use mathlib.Core.Path.{sym, ap, ◌∙◌}
use Prim.Native.Nat.{ℕ, ◌*◌}
use borrow.Author.Rules.{rules}
use Rattle.font.specs.Records.{character_bytes, client_records}
use Rattle.font.specs.Font.{past}
use Rattle.font.specs.Keys.{Bytes}
use Rattle.font.specs.RecordsLaws.{numbered}
use Rattle.font.proofs.LookupLaws.{found_part}
use Rattle.font_index.specs.IndexLaws.{index_long}
use Rattle.font_index.proofs.ReadingLaws.{lies_there, lies_nowhere, start_few}
use Rattle.font_index.proofs.record_by.Goals as goal

pub is_present-requires : goal.is_present-requires
is_present-requires c = index_long c.args.index.now (client_records c.args.s.now) c.requires.1

pub returns-then-not-is_present : goal.returns-then-not-is_present
returns-then-not-is_present c =
    let a = c.args in
    let k = a.key in
    let b : Bytes k.family k.code = record { family_byte_lem = search rules; code_byte_lem = search rules } in
    let absent = sym c.is_present.ensures ∙ c.if-not-is_present.true in
    (lies_nowhere a.s.now c.requires.0 c.type_inv.s a.index.now c.requires.1 k.size k.family k.code b absent).bytes

pub number_of-requires : goal.number_of-requires
number_of-requires c =
    let a = c.args in
    let k = a.key in
    let b : Bytes k.family k.code = record { family_byte_lem = search rules; code_byte_lem = search rules } in
    let present = sym c.is_present.ensures ∙ c.if-not-is_present.false in
    let few = start_few a.s.now c.requires.0 c.type_inv.s a.index.now c.requires.1 k.size k.family k.code b present in
    (index_long a.index.now (client_records a.s.now) c.requires.1, few.0, few.1, few.2)

pub record_at-requires : goal.record_at-requires
record_at-requires c =
    let a = c.args in
    let k = a.key in
    let b : Bytes k.family k.code = record { family_byte_lem = search rules; code_byte_lem = search rules } in
    let present = sym c.is_present.ensures ∙ c.if-not-is_present.false in
    rw c.number_of.ensures (lies_there a.s.now c.requires.0 c.type_inv.s a.index.now c.requires.1 k.size k.family k.code b present).0

pub returns : goal.returns
returns c =
    let a = c.args in
    let k = a.key in
    let b : Bytes k.family k.code = record { family_byte_lem = search rules; code_byte_lem = search rules } in
    let present = sym c.is_present.ensures ∙ c.if-not-is_present.false in
    let found = lies_there a.s.now c.requires.0 c.type_inv.s a.index.now c.requires.1 k.size k.family k.code b present in
    let r = c.record_at in
    found_part a.s.now c.requires.0 k.size k.family k.code _ found.0 found.1 a.s.ref_ptr
    (r.ensures.result_value ∙ ap (numbered a.s.now) c.number_of.ensures)
    (r.ensures.ref_ptr_value ∙ ap (λ (n : ℕ). past (character_bytes * n) a.s.ref_ptr) c.number_of.ensures)
