-- The rules for CH records, test by test.
--     sound_from, sound_pass    the CH records in one pass that carries the least key for the next, for `are_characters`
--     good_character_lem           the tests of a CH record, for `is_character`
-- Assumes nothing.
use mathlib.Core.Path.{◌≡◌, refl, sym, ap, ap₂, ◌∙◌}
use mathlib.Core.Bool.{Bool, true, false, ◌&&◌, ◌||◌, and-true, and_assoc}
use mathlib.Core.List.{List, [], ◌∷◌}
use Prim.Native.Nat.{ℕ, suc, ◌+◌}
use native.Mathlib.Omega.{arith}
use borrow.Author.Tests.{le-leb}
use lib.Dec.{leb, eqb}
use Rattle.font.specs.Records.{greatest_size, greatest_family, metric_words, size_byte, family_byte, flag_byte, successor_byte}
use Rattle.font.specs.Records.{every, marked, good_word, good_character, before, rising}
use Rattle.font.specs.Keys.{key_in, InBytes, AllInBytes, before_key}
use Rattle.font_records.specs.Rules.{sound_characters}

-- ---- CH records, in one pass

-- the rules for each of some records, and each key at least the one that may come next
unfoldable pub sound_from : ℕ → List (List ℕ) → Bool
sound_from least [] = true
sound_from least (r ∷ l) = (good_character r && leb least (key_in r)) && sound_from (key_in r + 1) l

-- good record, order, rules for each after it, order after it
regroup : (g b e r : Bool) → ((g && b) && (e && r)) ≡ ((g && e) && (b && r))
regroup false b e r = refl
regroup true true e r = refl
regroup true false true r = refl
regroup true false false r = refl

-- a greater key is at least the next one
next_key : (r q : List ℕ) → InBytes r → InBytes q → leb (key_in r + 1) (key_in q) ≡ before r q
next_key r q b d =
    let next : key_in r + 1 ≡ suc (key_in r) = omega arith in
    ap (λ (n : ℕ). leb n (key_in q)) next ∙ sym (before_key r q b d)

sound_behind : (r : List ℕ) (l : List (List ℕ)) → AllInBytes (r ∷ l) → sound_from (key_in r + 1) l ≡ (every good_character l && rising (r ∷ l))
unfolding sound_from every rising
sound_behind r [] b = refl
sound_behind r (q ∷ l) b =
    ap₂ (λ (o e : Bool). (good_character q && o) && e) (next_key r q (b 0) (b 1)) (sound_behind q l (λ i. b (suc i)))
    ∙ regroup (good_character q) (before r q) (every good_character l) (rising (q ∷ l))

pub sound_pass : (l : List (List ℕ)) → AllInBytes l → sound_characters l ≡ sound_from 0 l
unfolding sound_characters sound_from every rising
sound_pass [] b = refl
sound_pass (r ∷ l) b =
    let first : (good_character r && leb 0 (key_in r)) ≡ good_character r = rw (le-leb 0 (key_in r) (omega arith)) (and-true (good_character r)) in
    and_assoc (good_character r) (every good_character l) (rising (r ∷ l))
    ∙ ap (λ (t : Bool). good_character r && t) (sym (sound_behind r l b))
    ∙ ap (λ (t : Bool). t && sound_from (key_in r + 1) l) (sym first)

-- ---- the tests of a CH record

in_turn_lem : (m s f g o w : Bool) → (m && s && f && g && o && w) ≡ (m && s && f && (g && o) && w)
in_turn_lem m s f g o w = ap (λ (t : Bool). t && w) (and_assoc (m && s && f) g o)

pub good_character_lem : (r : List ℕ) →
    good_character r
    ≡ (marked 67 72 r
    && leb (size_byte r) greatest_size
    && leb (family_byte r) greatest_family
    && (leb (flag_byte r) 1 && (eqb (flag_byte r) 1 || eqb (successor_byte r) 0))
    && every good_word (metric_words r))
unfolding good_character
good_character_lem r = in_turn_lem (marked 67 72 r) (leb (size_byte r) greatest_size) (leb (family_byte r) greatest_family) (leb (flag_byte r) 1) _ _
