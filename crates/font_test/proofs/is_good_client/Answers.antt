-- `is_good_client` makes the tests of `good-client`, one after the other: the length, the CH records, the chains of both tables.
-- An empty one is good (`empty_client`).
-- Assumes nothing.
use mathlib.Core.Path.{◌≡◌, refl, sym, ap, ◌∙◌}
use mathlib.Core.List.{List, [], ◌∷◌}
use Prim.Native.Nat.{ℕ}
use native.Mathlib.Omega.{arith}
use borrow.Author.Tests.{eqb-true}
use lib.ListN.{length}
use Rattle.font.specs.Records.{client_records, every}
use Rattle.font.specs.Font.{font_with}
use Rattle.font.specs.Table.{seen_ends, SoundTables}
use Rattle.font.specs.FontLaws.{good_records_lem, good_header, empty_client, sound_client, sound_ours, ours_alone}
use Rattle.font.specs.LookupLaws.{our_part}
use Rattle.font_test.proofs.CheckLaws.{good-client, client_broken, client_great, client_unsound, client_tested, client_chained, pass, stop}
use Rattle.font_test.proofs.FollowedLaws.{client_followed, ours_followed}
use Rattle.font_test.proofs.is_good_client.Goals as goal

no_bytes : (l : List ℕ) → length l ≡ 0 → l ≡ []
no_bytes [] h = refl
no_bytes (b ∷ l) h = absurd (omega arith)

pub returns-then-is_empty : goal.returns-then-is_empty
returns-then-is_empty c =
    let a = c.args in
    rw (no_bytes a.client.now (eqb-true _ _ (sym c.is_empty.ensures ∙ c.if-is_empty.true))) (sym (empty_client a.table.now c.requires))

pub returns-then-client-n : goal.returns-then-client-n
returns-then-client-n c =
    let a = c.args in
    sym (good-client _ _ ∙ stop _ _ (client_broken a.table.now a.client.now c.count-n.result c.count-n.ensures c.if-client-n.true))

pub returns-then-n-gt-MOST_CLIENT_CHARACTERS : goal.returns-then-n-gt-MOST_CLIENT_CHARACTERS
returns-then-n-gt-MOST_CLIENT_CHARACTERS c =
    let a = c.args in
    sym (good-client _ _ ∙ stop _ _ (client_great a.table.now a.client.now c.count-n.result c.count-n.ensures c.if-client-n.false c.if-n-gt-MOST_CLIENT_CHARACTERS.true))

pub returns-then-not-are_characters : goal.returns-then-not-are_characters
returns-then-not-are_characters c =
    let a = c.args in
    sym (client_unsound a.table.now a.client.now c.count-n.result c.count-n.ensures c.if-client-n.false c.if-n-gt-MOST_CLIENT_CHARACTERS.false c.are_characters.ensures c.if-not-are_characters.true)

pub invariant_of-tables : goal.invariant_of-tables
invariant_of-tables c =
    let a = c.args in
    let t = a.table.now in
    let d = a.client.now in
    let good = client_tested t d c.count-n.result c.count-n.ensures c.if-client-n.false c.if-n-gt-MOST_CLIENT_CHARACTERS.false c.are_characters.ensures c.if-not-are_characters.false in
    let sound : SoundTables t d = record { ours = good_records_lem t c.requires; client = good } in
    record { sound = sound }

pub all_end-requires : goal.all_end-requires
all_end-requires c =
    let a = c.args in
    let t = a.table.now in
    let d = a.client.now in
    let good = client_tested t d c.count-n.result c.count-n.ensures c.if-client-n.false c.if-n-gt-MOST_CLIENT_CHARACTERS.false c.are_characters.ensures c.if-not-are_characters.false in
    let sound : SoundTables t d = record { ours = good_records_lem t c.requires; client = good } in
    (sound_client d good, client_followed t d sound c.type_inv.client)

pub our_records-requires : goal.our_records-requires
our_records-requires c = good_header c.args.table.now c.requires

pub all_end-requires-then-all_end : goal.all_end-requires-then-all_end
all_end-requires-then-all_end c =
    let a = c.args in
    let t = a.table.now in
    let d = a.client.now in
    let good = client_tested t d c.count-n.result c.count-n.ensures c.if-client-n.false c.if-n-gt-MOST_CLIENT_CHARACTERS.false c.are_characters.ensures c.if-not-are_characters.false in
    let sound : SoundTables t d = record { ours = good_records_lem t c.requires; client = good } in
    let ends = sym c.all_end.ensures ∙ c.if-all_end.true in
    rw c.our_records.ensures.result_value
    (sound_ours t sound.ours, rw (our_part t, ← ours_alone t) at (ours_followed t d sound c.type_inv.table ends))

pub returns-then-all_end : goal.returns-then-all_end
returns-then-all_end c =
    let t = c.args.table.now in
    let d = c.args.client.now in
    let chained = client_chained t d c.count-n.result c.count-n.ensures c.if-client-n.false c.if-n-gt-MOST_CLIENT_CHARACTERS.false c.are_characters.ensures c.if-not-are_characters.false in
    c.all_end-then-all_end.ensures
    ∙ ap (every (seen_ends (font_with t d))) (ap client_records c.our_records.ensures.result_value ∙ ours_alone t)
    ∙ sym (chained ∙ pass _ _ (sym c.all_end.ensures ∙ c.if-all_end.true))

pub returns-else-all_end : goal.returns-else-all_end
returns-else-all_end c =
    let chained = client_chained c.args.table.now c.args.client.now c.count-n.result c.count-n.ensures c.if-client-n.false c.if-n-gt-MOST_CLIENT_CHARACTERS.false c.are_characters.ensures c.if-not-are_characters.false in
    c.if-all_end.false ∙ sym (chained ∙ stop _ _ (sym c.all_end.ensures ∙ c.if-all_end.false))
