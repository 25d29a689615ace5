-- `are_characters` tests every CH record and holds its key to the least that may come next: the invariant is `Passing` of `sound_from`,
-- which is `sound_characters` at first (`sound_pass`).
-- Assumes nothing.
use mathlib.Core.Path.{◌≡◌, refl, sym, ap, ap₂, ◌∙◌}
use mathlib.Core.Bool.{Bool, ◌&&◌}
use Prim.Native.Nat.{ℕ, ◌+◌, ◌*◌, ◌≤◌}
use native.Mathlib.Nat.{sub-zero}
use native.Mathlib.Omega.{arith}
use lib.Dec.{leb}
use lib.ListN.{length, drop, length-drop}
use Rattle.std.proofs.lemmas.List.{length-take-le}
use Rattle.font.specs.Records.{character_bytes, pieces, client_records, client_count, good_character}
use Rattle.font.specs.Keys.{key_in}
use Rattle.font.specs.Reading.{again, finished}
use Rattle.font.specs.RecordsLaws.{all_in_bytes}
use Rattle.font.proofs.KeyLaws.{number_in}
use Rattle.font_records.proofs.RuleLaws.{sound_from, sound_pass}
use Rattle.font_records.proofs.are_characters.Invariants.{sound}
use Rattle.font_records.proofs.are_characters.Goals as goal

pub loop-i-init : goal.loop-i-init
unfolding client_records client_count
loop-i-init c =
    let s = c.args.s.now in
    record { passed = omega arith; rest = rw sub-zero (sound_pass (client_records s) (all_in_bytes s c.type_inv.s)) }

-- a whole record stands at each number
pub is_character-requires : goal.is_character-requires
is_character-requires c =
    let s = c.args.s.now in
    let at = character_bytes * c.loop-i.i in
    let whole : character_bytes ≤ length (drop at s) = omega (arith, length-drop at s, c.count-i-end.ensures) in
    omega (arith, ap length c.record_at-r.ensures.result_value ∙ length-take-le character_bytes (drop at s) whole)

pub loop-i-preserved : goal.loop-i-preserved
unfolding sound_from pieces
loop-i-preserved c =
    let l = c.loop-i in
    let r = c.record_at-r.ensures.result_value in
    let key = c.number-key.result in
    let rest = drop character_bytes (drop (character_bytes * l.i) c.args.s.now) in
    let is = c.number-key.ensures.0 ∙ number_in c.of.ensures ∙ ap key_in r in
    let tested = c.is_character.ensures ∙ ap good_character r in
    again l.invariant (sound (key + 1)) character_bytes (c.is_character.result && leb l.least key) (omega arith) (omega arith)
    (λ m left. ap₂ (λ (good : Bool) (k : ℕ). (good && leb l.least k) && sound (k + 1) m rest) (sym tested) (sym is))

pub returns : goal.returns
unfolding sound_from pieces
returns c = sym (finished c.loop-i.invariant (omega arith) (λ u. refl))
