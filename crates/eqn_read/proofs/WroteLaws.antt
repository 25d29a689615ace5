-- What has been written of a whole follows from what has been written of its parts.
--     reached, goes          where a part ends
--     ends_onward, onward_from, onward_stop, closed_onward     a place that lies onward
--     ends_wrote             bytes that have been stored
--     wrote_nothing          no bytes
--     wrote_then, wrote_stop     bytes behind others; or those before them were too many, or too deep
--     list_wrote, list_stop, list_deep     a list whose items stand behind the place of its opening; or they were too large, or there is no level for them
--     alone                  a list of one item
-- A part that is too large makes the whole too large: it has no more bytes than the whole, which nests at least as deep.
-- Assumes nothing.
use Rattle.std.specs.Prelude.{Option, Some, None}
use mathlib.Core.Path.{◌≡◌, refl, ap, subst, subst⁻¹, ◌∙◌}
use mathlib.Core.Bool.{Bool, true, ◌&&◌, and-true, false≢true}
use mathlib.Core.List.{List, [], ◌++◌, append-nil}
use Prim.Native.Nat.{ℕ, suc, ◌+◌, ◌-◌, ◌<◌, ◌≤◌}
use native.Mathlib.Omega.{arith}
use native.Mathlib.Decide.{dec_lt}
use lib.ListN.{length, length-append}
use lib.Seq.{sets, length-sets}
use borrow.Author.Tests.{le-leb, lt-leb}
use Rattle.laws.specs.Truths.{both_true, true_both}
use Rattle.words.specs.Words.{four_bytes}
use Rattle.formula.specs.Tree.{Items, nil, cons, Item, list, greatest_short}
use Rattle.formula.specs.Format.{formula_limit}
use Rattle.formula_spelling.specs.Spelling.{list_opening, spelling, item_spelling, field_spelling}
use Rattle.eqn_meaning.specs.Meaning.{items_within, item_within, field_within}
use Rattle.eqn_meaning.specs.SpelledLength.{spelling_length}
use Rattle.eqn_stores.specs.Values.{Ends, ShortClosed, LongClosed, ListClosed}
use Rattle.eqn_read.specs.Values.{Onward, Wrote, Written, Unwritten}
use Rattle.eqn_stores.specs.SetsLaws.{sets_append, sets_behind, sets_moved}

-- ---- bytes behind bytes

pub ends_wrote : (b : List ℕ) (at : ℕ) (before : List ℕ) {after : List ℕ} (r : Option ℕ) → Ends (at + length b) r → after ≡ sets before at b →
    Wrote true b at before after r
ends_wrote b at before (Some e) ends stored = record { deep = refl; ends = ends.0; short = omega arith; stored = stored }
ends_wrote b at before None ends stored = record { large = λ deep. ends; as_long = ap length stored ∙ length-sets before at b }

pub wrote_nothing : (at : ℕ) (o : List ℕ) (r : Option ℕ) → Ends at r → Wrote true [] at o o r
wrote_nothing at o (Some e) ends = record { deep = refl; ends = omega arith; short = omega arith; stored = refl }
wrote_nothing at o None ends = record { large = λ deep. omega arith; as_long = refl }

module _ (u : Bool) (a : List ℕ) (at : ℕ) (o o₁ : List ℕ) (v : Bool) (b : List ℕ) where
  behind_written : (e : ℕ) (o₂ : List ℕ) (r : Option ℕ) → Written u a at e o o₁ → Wrote v b e o₁ o₂ r → Wrote (u && v) (a ++ b) at o o₂ r
  behind_written e o₂ (Some f) first then =
      record {
        deep = true_both first.deep then.deep;
        ends = omega (arith, length-append a b, first.ends, then.ends);
        short = then.short;
        stored = then.stored ∙ rw first.stored (sets_append o at a b first.ends);
      }
  behind_written e o₂ None first then =
      record {
        large = λ deep. omega (arith, length-append a b, first.ends, then.large (both_true {p = u} deep).1);
        as_long = then.as_long ∙ ap length first.stored ∙ length-sets o at a;
      }

  pub wrote_then : {q : Option ℕ} {e : ℕ} (o₂ : List ℕ) (r : Option ℕ) → q ≡ Some e → Wrote u a at o o₁ q → Wrote v b e o₁ o₂ r →
      Wrote (u && v) (a ++ b) at o o₂ r
  wrote_then {e = e} o₂ r is first then = behind_written e o₂ r (subst (Wrote u a at o o₁) is first) then

  pub wrote_stop : {q : Option ℕ} → q ≡ None → Wrote u a at o o₁ q → Wrote (u && v) (a ++ b) at o o₁ q
  wrote_stop is first =
      let stopped : Unwritten u a at o o₁ = subst (Wrote u a at o o₁) is first in
      subst⁻¹ (Wrote (u && v) (a ++ b) at o o₁) is
      (record {
        large = λ deep. omega (arith, length-append a b, stopped.large (both_true {p = u} deep).0);
        as_long = stopped.as_long;
      })

-- ---- places

pub reached : (x : ℕ) {q : Option ℕ} {e : ℕ} → q ≡ Some e → Ends x q → (e ≡ x) × (x ≤ formula_limit)
reached x is ends = subst (Ends x) is ends

pub goes : (at : ℕ) {q : Option ℕ} {e : ℕ} → q ≡ Some e → Onward at q → (at ≤ e) × (e ≤ formula_limit)
goes at is onward = subst (Onward at) is onward

pub ends_onward : (at e : ℕ) (r : Option ℕ) → at ≤ e → Ends e r → Onward at r
ends_onward at e (Some f) below ends = (omega arith, omega arith)
ends_onward at e None below ends = tt

pub onward_from : (at e : ℕ) (r : Option ℕ) → at ≤ e → Onward e r → Onward at r
onward_from at e (Some f) below onward = (omega arith, onward.1)
onward_from at e None below onward = tt

pub onward_stop : (at : ℕ) {q : Option ℕ} → q ≡ None → Onward at q
onward_stop at is = subst⁻¹ (Onward at) is tt

-- ---- lists

pub closed_onward : (o o₁ : List ℕ) (at e : ℕ) (r : Option ℕ) → at ≤ e → ListClosed o at e o₁ r → Onward at r
closed_onward o o₁ at e r below closed = go (dec_lt greatest_short (e - (at + 3)))
  where
    go : Dec (greatest_short < e - (at + 3)) → Onward at r
    go (yes long) = ends_onward at (e + 2) r (omega arith) (closed.1 long).ends
    go (no short) = ends_onward at e r below (closed.0 (omega arith)).ends

opening_size : (n : ℕ) → (n ≤ greatest_short → length (list_opening n) ≡ 3) × (greatest_short < n → length (list_opening n) ≡ 5)
unfolding list_opening four_bytes
opening_size n = (λ short. rw (le-leb n greatest_short short, list_opening), λ long. rw (lt-leb n greatest_short long, list_opening))

-- behind the place of the opening
module _ (w : Bool) (c : List ℕ) (at : ℕ) (o o₁ : List ℕ) where
  abbrev opened : List ℕ
  opened = list_opening (length c) ++ c

  module _ (e : ℕ) (o₂ : List ℕ) (inside : Written w c (at + 3) e o o₁) where
    size : e - (at + 3) ≡ length c
    size = omega (arith, inside.ends)

    short_wrote : (r : Option ℕ) → length (list_opening (length c)) ≡ 3 → ShortClosed o₁ at e o₂ r → Wrote w opened at o o₂ r
    short_wrote (Some f) three closed =
        record {
          deep = inside.deep;
          ends = omega (arith, inside.ends, closed.ends, length-append (list_opening (length c)) c);
          short = omega (arith, closed.ends);
          stored = closed.stored ∙ rw (size, inside.stored) (sets_behind o at (list_opening (length c)) (at + 3) c (omega arith));
        }
    short_wrote None three closed = absurd (omega (arith, inside.short, closed.ends))

    long_stored : length (list_opening (length c)) ≡ 5 → {r : Option ℕ} → LongClosed o₁ at e o₂ r → o₂ ≡ sets o at opened
    long_stored five closed =
        closed.stored
        ∙ rw (size, inside.stored) (sets_moved o at (list_opening (length c)) (at + 3) (at + 5) c (omega arith) (omega arith) (omega arith))

    long_wrote : (r : Option ℕ) → length (list_opening (length c)) ≡ 5 → LongClosed o₁ at e o₂ r → Wrote w opened at o o₂ r
    long_wrote (Some f) five closed =
        record {
          deep = inside.deep;
          ends = omega (arith, inside.ends, closed.ends, length-append (list_opening (length c)) c);
          short = omega (arith, closed.ends);
          stored = long_stored five closed;
        }
    long_wrote None five closed =
        record {
          large = λ deep. omega (arith, inside.ends, closed.ends, length-append (list_opening (length c)) c);
          as_long = ap length (long_stored five closed) ∙ length-sets o at opened;
        }

    closed_wrote : (r : Option ℕ) → ListClosed o₁ at e o₂ r → Wrote w opened at o o₂ r
    closed_wrote r closed = go (dec_lt greatest_short (length c))
      where
        go : Dec (greatest_short < length c) → Wrote w opened at o o₂ r
        go (yes long) = long_wrote r ((opening_size (length c)).1 long) (closed.1 (omega (arith, size)))
        go (no short) = short_wrote r ((opening_size (length c)).0 (omega arith)) (closed.0 (omega (arith, size)))

  closed_stop : Unwritten w c (at + 3) o o₁ → Unwritten w opened at o o₁
  closed_stop inside =
      record { large = λ deep. omega (arith, inside.large deep, length-append (list_opening (length c)) c, least (dec_lt greatest_short (length c))); as_long = inside.as_long }
    where
      least : Dec (greatest_short < length c) → 3 ≤ length (list_opening (length c))
      least (yes long) = omega (arith, (opening_size (length c)).1 long)
      least (no short) = omega (arith, (opening_size (length c)).0 (omega arith))

-- with the levels that are left
module _ (l : Items) (levels at : ℕ) (o o₁ : List ℕ) where
  -- a list is too deep where no level is left
  pub list_deep : levels ≡ 0 → Wrote (field_within (list l) levels) (field_spelling (list l)) at o o None
  unfolding field_within
  list_deep none = record { large = λ within. absurd (false≢true (rw none at within)); as_long = refl }

  abbrev Inside : Option ℕ → Type 0
  Inside q = Wrote (items_within l (levels - 1)) (spelling l) (at + 3) o o₁ q

  module _ (some : 0 < levels) where
    as_field : (o₂ : List ℕ) (r : Option ℕ) → Wrote (items_within l (levels - 1)) (opened (items_within l (levels - 1)) (spelling l) at o o₁) at o o₂ r →
        Wrote (field_within (list l) levels) (field_spelling (list l)) at o o₂ r
    unfolding field_within field_spelling
    as_field o₂ r wrote =
        let deep : levels ≡ suc (levels - 1) = omega arith in
        subst⁻¹ (λ (n : ℕ). Wrote (field_within (list l) n) (field_spelling (list l)) at o o₂ r) deep (rw (← spelling_length l) wrote)

    pub list_wrote : {q : Option ℕ} {e : ℕ} (o₂ : List ℕ) (r : Option ℕ) → q ≡ Some e → Inside q → ListClosed o₁ at e o₂ r →
        Wrote (field_within (list l) levels) (field_spelling (list l)) at o o₂ r
    list_wrote {e = e} o₂ r is inside closed =
        as_field o₂ r (closed_wrote (items_within l (levels - 1)) (spelling l) at o o₁ e o₂ (subst Inside is inside) r closed)

    pub list_stop : {q : Option ℕ} → q ≡ None → Inside q → Wrote (field_within (list l) levels) (field_spelling (list l)) at o o₁ q
    list_stop is inside =
        subst⁻¹ (Wrote (field_within (list l) levels) (field_spelling (list l)) at o o₁) is
        (as_field o₁ None (closed_stop (items_within l (levels - 1)) (spelling l) at o o₁ (subst Inside is inside)))

-- a list of one item
pub alone : (i : Item) (levels at : ℕ) (o o₁ : List ℕ) (q : Option ℕ) → Wrote (item_within i levels) (item_spelling i) at o o₁ q →
    Wrote (items_within (cons i nil) levels) (spelling (cons i nil)) at o o₁ q
unfolding items_within spelling
alone i levels at o o₁ q wrote = rw (append-nil, and-true) wrote
