-- `is_good` makes the tests of `good-table`, one after the other: the length, the PA records, the CH records, the chains.
use mathlib.Core.Path.{sym, ap, ◌∙◌}
use mathlib.Core.List.{[]}
use Rattle.font.specs.Records.{every, good_records}
use Rattle.font.specs.Font.{font_with}
use Rattle.font.specs.Table.{good_table, seen_ends}
use Rattle.font.specs.FontLaws.{sound_alone, sound_ours, ours_alone}
use Rattle.font.specs.LookupLaws.{our_part}
use Rattle.font_test.proofs.FollowedLaws.{alone_followed, alone_ends}
use Rattle.font_test.proofs.CheckLaws.{good-table, length_short, part_broken, part_great, part_good, part_records, part_tested, our_part_records, pass, stop}
use Rattle.font_test.proofs.is_good.Goals as goal

pub returns-then-table-lt-HEADER_BYTES : goal.returns-then-table-lt-HEADER_BYTES
returns-then-table-lt-HEADER_BYTES c = sym (good-table _ ∙ stop _ _ (length_short _ c.if-table-lt-HEADER_BYTES.true))

pub returns-then-records-n : goal.returns-then-records-n
returns-then-records-n c =
    let r = c.our_records-records in
    let broken = part_broken c.args.table.now r.result.now r.ensures.result_value c.count-n.result c.count-n.ensures c.if-table-lt-HEADER_BYTES.false c.if-records-n.true in
    sym (good-table _ ∙ stop _ _ broken)

pub returns-then-n-gt-MOST_CHARACTERS : goal.returns-then-n-gt-MOST_CHARACTERS
returns-then-n-gt-MOST_CHARACTERS c =
    let r = c.our_records-records in
    let great = part_great c.args.table.now r.result.now r.ensures.result_value c.count-n.result c.count-n.ensures c.if-table-lt-HEADER_BYTES.false c.if-records-n.false c.if-n-gt-MOST_CHARACTERS.true in
    sym (good-table _ ∙ stop _ _ great)

pub returns-then-not-are_parameters : goal.returns-then-not-are_parameters
returns-then-not-are_parameters c =
    let r = c.our_records-records in
    let sized = part_good c.args.table.now r.result.now r.ensures.result_value c.count-n.result c.count-n.ensures c.if-table-lt-HEADER_BYTES.false c.if-records-n.false c.if-n-gt-MOST_CHARACTERS.false in
    let parameters = sym c.are_parameters.ensures ∙ c.if-not-are_parameters.true in
    sym (good-table _ ∙ pass _ _ sized ∙ stop _ _ parameters)

pub returns-then-not-are_characters : goal.returns-then-not-are_characters
returns-then-not-are_characters c =
    let r = c.our_records-records in
    let sized = part_good c.args.table.now r.result.now r.ensures.result_value c.count-n.result c.count-n.ensures c.if-table-lt-HEADER_BYTES.false c.if-records-n.false c.if-n-gt-MOST_CHARACTERS.false in
    let parameters_good = sym c.are_parameters.ensures ∙ c.if-not-are_parameters.false in
    let characters = sym (part_records c.args.table.now r.result.now r.ensures.result_value c.count-n.result c.count-n.ensures c.are_characters.ensures) ∙ c.if-not-are_characters.true in
    sym (good-table _ ∙ pass _ _ sized ∙ pass _ _ parameters_good ∙ stop _ _ characters)

pub invariant_of-tables : goal.invariant_of-tables
invariant_of-tables c =
    let t = c.args.table.now in
    let r = c.our_records-records in
    let good =
    part_tested t r.result.now r.ensures.result_value c.count-n.result c.count-n.ensures c.if-table-lt-HEADER_BYTES.false c.if-records-n.false c.if-n-gt-MOST_CHARACTERS.false
    c.are_parameters.ensures c.if-not-are_parameters.false c.are_characters.ensures c.if-not-are_characters.false in
    record { sound = sound_alone t good }

pub all_end-requires : goal.all_end-requires
all_end-requires c =
    let t = c.args.table.now in
    let r = c.our_records-records in
    let good =
    part_tested t r.result.now r.ensures.result_value c.count-n.result c.count-n.ensures c.if-table-lt-HEADER_BYTES.false c.if-records-n.false c.if-n-gt-MOST_CHARACTERS.false
    c.are_parameters.ensures c.if-not-are_parameters.false c.are_characters.ensures c.if-not-are_characters.false in
    (rw r.ensures.result_value (sound_ours t good), rw r.ensures.result_value (rw (our_part t, ← ours_alone t) at (alone_followed t good c.type_inv.table)))

pub returns : goal.returns
unfolding good_table
returns c =
    let t = c.args.table.now in
    let r = c.our_records-records in
    let good =
    part_tested t r.result.now r.ensures.result_value c.count-n.result c.count-n.ensures c.if-table-lt-HEADER_BYTES.false c.if-records-n.false c.if-n-gt-MOST_CHARACTERS.false
    c.are_parameters.ensures c.if-not-are_parameters.false c.are_characters.ensures c.if-not-are_characters.false in
    c.all_end.ensures
    ∙ ap (every (seen_ends (font_with t []))) (our_part_records t r.result.now r.ensures.result_value c.count-n.result c.count-n.ensures ∙ sym (our_part t))
    ∙ alone_ends t good c.type_inv.table
    ∙ sym (pass (good_records t) _ good)
