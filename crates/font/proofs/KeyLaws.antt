-- The derived order and equality of `Key` are those of the keys' numbers.
--     number       the number of a key
--     key_less, key_same     one is less than another, or the same
--     key_below, key_not_below, key_is, key_is_not     what a test of them says
--     number_in    that of a record's symbol
-- Assumes nothing.
use mathlib.Core.Path.{◌≡◌, refl, sym, ◌∙◌}
use mathlib.Core.Bool.{Bool, true, false, cond, ◌&&◌, ◌||◌, and_assoc}
use mathlib.Core.List.{List}
use Prim.Native.Nat.{ℕ, ◌<◌, ◌≤◌}
use borrow.Author.Tests.{ltb-true, ltb-false, eqb-true}
use Rattle.std.proofs.lemmas.Bool.{eqb-false}
use lib.Dec.{ltb, eqb}
use Rattle.std.specs.Prelude.{Some}
use Rattle.std.specs.Ordering.{is_lt, is_some_and, partial_lt, partial_ordering_then}
use Rattle.std.proofs.Common.{Less, Equal, Greater}
use Rattle.font.specs.declared.Key.{Key}
use Rattle.font.specs.contracts.KeyPartialOrd.TheImpl.{partial_cmp-value}
use Rattle.font.specs.contracts.KeyPartialEq.TheImpl.{eq-value}
use Rattle.font.specs.Keys.{key_of, key_in, Bytes, key_order, same_key}
use Rattle.font.specs.Values.{KeyOf}

abbrev pub number : Key → ℕ
number k = key_of k.size k.family k.code

pub number_in : {k : Key} {r : List ℕ} → KeyOf k r → number k ≡ key_in r
number_in is = rw (is.size_is, is.family_is, is.code_is)

-- by the tests of the first part, of the second and of the third
by_parts : (l e m f n g : Bool) →
    is_some_and is_lt
    (partial_ordering_then (Some (cond l Less (cond e Equal Greater)))
    (partial_ordering_then (Some (cond m Less (cond f Equal Greater))) (Some (cond n Less (cond g Equal Greater)))))
    ≡ (l || (e && (m || (f && n))))
by_parts true e m f n g = refl
by_parts false false m f n g = refl
by_parts false true true f n g = refl
by_parts false true false false n g = refl
by_parts false true false true true g = refl
by_parts false true false true false true = refl
by_parts false true false true false false = refl

module _ (k j : Key) (b : Bytes k.family k.code) (d : Bytes j.family j.code) where
  pub key_less : partial_lt partial_cmp-value.it k j ≡ ltb (number k) (number j)
  key_less =
      by_parts (ltb k.size j.size) (eqb k.size j.size) (ltb k.family j.family) (eqb k.family j.family) (ltb k.code j.code) (eqb k.code j.code)
      ∙ key_order k.size k.family k.code j.size j.family j.code b d

  pub key_same : eq-value.it k j ≡ eqb (number k) (number j)
  key_same =
      sym (and_assoc (eqb k.size j.size) (eqb k.family j.family) (eqb k.code j.code))
      ∙ same_key k.size k.family k.code j.size j.family j.code b d

  -- what a test of them says
  pub key_below : {t : Bool} → t ≡ partial_lt partial_cmp-value.it k j → t ≡ true → number k < number j
  key_below is e = ltb-true (number k) (number j) (sym key_less ∙ sym is ∙ e)

  pub key_not_below : {t : Bool} → t ≡ partial_lt partial_cmp-value.it k j → t ≡ false → number j ≤ number k
  key_not_below is e = ltb-false (number k) (number j) (sym key_less ∙ sym is ∙ e)

  pub key_is : {t : Bool} → t ≡ eq-value.it k j → t ≡ true → number k ≡ number j
  key_is is e = eqb-true (number k) (number j) (sym key_same ∙ sym is ∙ e)

  pub key_is_not : {t : Bool} → t ≡ eq-value.it k j → t ≡ false → number k ≡ number j → ⊥
  key_is_not is e = eqb-false (number k) (number j) (sym key_same ∙ sym is ∙ e)
