-- `all_end` tests the chain of every record: the invariant is `Passing` of that test.
-- Assumes nothing.
use mathlib.Core.Path.{◌≡◌, refl, sym, ap, ◌∙◌}
use mathlib.Core.Bool.{Bool, ◌&&◌}
use Prim.Native.Nat.{◌*◌, ◌<◌}
use native.Mathlib.Nat.{sub-zero}
use native.Mathlib.Omega.{arith}
use lib.ListN.{length, drop}
use Rattle.font.specs.Records.{character_bytes, pieces, client_records, client_count, every}
use Rattle.font.specs.Font.{font_with}
use Rattle.font.specs.Table.{seen_ends}
use Rattle.font.specs.LookupLaws.{all_whole}
use Rattle.font.specs.Reading.{again, finished}
use Rattle.font.specs.RecordsLaws.{count, few, recorded, record_at}
use Rattle.font_chains.proofs.all_end.Invariants.{ending}
use Rattle.font_chains.proofs.all_end.Goals as goal

pub loop-i-init : goal.loop-i-init
unfolding client_records client_count
loop-i-init c = record { passed = omega arith; rest = rw sub-zero }

pub ends-good-requires : goal.ends-good-requires
ends-good-requires c =
    let i = c.loop-i.i in
    let s = c.args.s.now in
    let inside : i < count s = omega arith in
    let is = c.record_at.ensures.result_value in
    let whole : length c.record_at.result.now ≡ character_bytes =
    ap length (is ∙ sym (record_at s i inside)) ∙ all_whole s c.requires.0 i (omega (arith, recorded s)) in
    (omega (arith, whole), omega (arith, few s c.requires.0), rw (is, ← record_at s i inside) (c.requires.1.each i (omega (arith, recorded s))))

pub loop-i-preserved : goal.loop-i-preserved
unfolding every pieces
loop-i-preserved c =
    let l = c.loop-i in
    let a = c.args in
    let F = font_with a.tables.ours.now a.tables.client.now in
    let s = a.s.now in
    let rest = drop character_bytes (drop (character_bytes * l.i) s) in
    again l.invariant (ending F) character_bytes c.ends-good.result (omega arith) (omega arith)
    (λ m left. ap (λ (ends : Bool). ends && ending F m rest) (sym (c.ends-good.ensures ∙ ap (seen_ends F) c.record_at.ensures.result_value)))

pub returns : goal.returns
unfolding every pieces
returns c = sym (finished c.loop-i.invariant (omega arith) (λ u. refl))
