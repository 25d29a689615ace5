-- Laws of the name table.
--     named_first, named_next, named_append     a word among some names, by the first of them, and behind those that lack it
--     named_more                          a word among some names, with more behind them
--     named_is                            the record of a word is a member and has the word's bytes
--     first_here, first_next              the first name of a symbol, by the first of some names; `place_here`, `place_next` its place
--     first_is, first_none                it is a member that is for the symbol; where there is none, no member is
--     table_bad, table_old, table_next    a table by its first record
--     table_records                       the names of a good table are its records
--     records_good                        a name among records is a good one
--     table_names                         each of them is well formed, no keyword, and found by its bytes
-- The idea: a good table's names are each new behind those before them (`New`), so a word's first record is its only one.
-- Assumes nothing.
use Rattle.std.specs.Prelude.{◌≡◌, refl, Bool, true, false, not, ◌&&◌, ℕ, zero, suc, ◌+◌, ◌≤◌, eqb, length, drop}
use Rattle.std.proofs.Common.{sym, ◌∙◌, arith, eq-eqb, eqb-true}
use Rattle.std.proofs.Math.Path.{ap}
use Rattle.std.proofs.Math.Logic.{⊎_elim}
use Rattle.std.proofs.Math.Bool.{false≢true}
use mathlib.Core.List.Memᴰ
use mathlib.Core.List.{List, [], ◌∷◌, ◌++◌, append_assoc, append-nil, Memᴰ}
use Rattle.std.proofs.Math.Option.{Option, none, some}
use Rattle.std.proofs.lemmas.Bool.{not-true}
use Rattle.laws.specs.Options.{none_some}
use Rattle.laws.specs.Truths.{by_test, both_true, true_both}
use Rattle.eqn_tokens.specs.Bytes.{same}
use Rattle.eqn_tokens.specs.BytesLaws.{same_own, same_is}
use Rattle.eqn_names.specs.Names.{Name, record_bytes, front_name, is_keyword, named, is_there, names, bad_at, is_new, record_then, table_step, table_by, table_of, Asked, has_class, first_for, first_place, Records, ended, next}
use Rattle.eqn_names.specs.RecordsLaws.{GoodName, front_is}

-- ---- names by their bytes

pub record Has (ns : List Name) (w : List ℕ) (m : Name) : Type 0 where
  pub member : Memᴰ m ns
  pub is : m.bytes ≡ w

module _ (m : Name) (ms : List Name) (w : List ℕ) where
  pub named_first : same m.bytes w ≡ true → named (m ∷ ms) w ≡ some m
  unfolding named
  named_first t = rw (t, named)

  pub named_next : same m.bytes w ≡ false → named (m ∷ ms) w ≡ named ms w
  unfolding named
  named_next t = rw (t, named)

pub named_is : (ns : List Name) (w : List ℕ) {m : Name} → named ns w ≡ some m → Has ns w m
unfolding named
named_is [] w e = absurd (none_some e)
named_is (n ∷ ns) w {m} e =
    by_test (same n.bytes w)
    (λ t.
    let first = named_first n ns w t in
    let is : m ≡ n = cc in
    record { member = Memᴰ.head is; is = rw is (same_is n.bytes w t) })
    (λ t. let rest = named_is ns w (sym (named_next n ns w t) ∙ e) in record { member = Memᴰ.tail rest.member; is = rest.is })

pub named_append : (ms ns : List Name) (w : List ℕ) → named ms w ≡ none → named (ms ++ ns) w ≡ named ns w
unfolding named
named_append [] ns w e = refl
named_append (m ∷ ms) ns w e =
    by_test (same m.bytes w) (λ t. absurd (none_some (sym e ∙ named_first m ms w t)))
    (λ t. named_next m (ms ++ ns) w t ∙ named_append ms ns w (sym (named_next m ms w t) ∙ e))

named_front : (ms ns : List Name) (w : List ℕ) {m : Name} → named ms w ≡ some m → named (ms ++ ns) w ≡ some m
unfolding named
named_front [] ns w e = absurd (none_some e)
named_front (n ∷ ms) ns w e =
    by_test (same n.bytes w) (λ t. named_first n (ms ++ ns) w t ∙ sym (named_first n ms w t) ∙ e)
    (λ t. named_next n (ms ++ ns) w t ∙ named_front ms ns w (sym (named_next n ms w t) ∙ e))

by_option : {A X : Type 0} (o : Option A) → (o ≡ none → X) → ((a : A) → o ≡ some a → X) → X
by_option none absent there = absent refl
by_option (some a) absent there = there a refl

-- what a word is among some names and others, it is with more behind both
pub named_more : (ks ms ns : List Name) (w : List ℕ) → named ks w ≡ named ms w → named (ks ++ ns) w ≡ named (ms ++ ns) w
named_more ks ms ns w e =
    by_option (named ms w) (λ absent. named_append ks ns w (e ∙ absent) ∙ sym (named_append ms ns w absent))
    (λ m there. named_front ks ns w (e ∙ there) ∙ sym (named_front ms ns w there))

-- ---- names for symbols

abbrev pub is_for : ℕ → ℕ → Asked → Name → Bool
is_for family code asked m = eqb m.family family && eqb m.code code && has_class asked m.class

module _ (family code : ℕ) (asked : Asked) where
  pub record For (ns : List Name) (m : Name) : Type 0 where
    pub member : Memᴰ m ns
    pub has_family : m.family ≡ family
    pub has_code : m.code ≡ code
    pub has_class_lem : has_class asked m.class ≡ true

  pub first_here : (m : Name) (ms : List Name) → is_for family code asked m ≡ true → first_for family code asked (m ∷ ms) ≡ some m
  unfolding first_for
  first_here m ms t = rw (t, first_for)

  pub first_next : (m : Name) (ms : List Name) → is_for family code asked m ≡ false → first_for family code asked (m ∷ ms) ≡ first_for family code asked ms
  unfolding first_for
  first_next m ms t = rw (t, first_for)

  module _ (at : ℕ) (m : Name) (ms : List Name) where
    pub place_here : is_for family code asked m ≡ true → first_place family code asked at (m ∷ ms) ≡ at
    unfolding first_place
    place_here t = rw (t, first_place)

    pub place_next : is_for family code asked m ≡ false →
        first_place family code asked at (m ∷ ms) ≡ first_place family code asked (at + record_bytes m) ms
    unfolding first_place
    place_next t = rw (t, first_place)

  fits_for : {ns : List Name} (m : Name) → Memᴰ m ns → is_for family code asked m ≡ true → For ns m
  fits_for m member t =
      let outer = both_true {p = eqb m.family family && eqb m.code code} t in
      let inner = both_true {p = eqb m.family family} outer.0 in
      record { member = member; has_family = eqb-true _ _ inner.0; has_code = eqb-true _ _ inner.1; has_class_lem = outer.1 }

  pub first_is : (ns : List Name) {m : Name} → first_for family code asked ns ≡ some m → For ns m
  unfolding first_for
  first_is [] e = absurd (none_some e)
  first_is (n ∷ ns) {m} e =
      by_test (is_for family code asked n)
      (λ t.
      let here = first_here n ns t in
      let is : m ≡ n = cc in
      rw is (fits_for n (Memᴰ.head refl) t))
      (λ t.
      let rest = first_is ns (sym (first_next n ns t) ∙ e) in
      record { member = Memᴰ.tail rest.member; has_family = rest.has_family; has_code = rest.has_code; has_class_lem = rest.has_class_lem })

  for_fits : {ns : List Name} {m : Name} → For ns m → is_for family code asked m ≡ true
  for_fits f = true_both (true_both (eq-eqb _ _ f.has_family) (eq-eqb _ _ f.has_code)) f.has_class_lem

  pub first_none : (ns : List Name) {m : Name} → first_for family code asked ns ≡ none → For ns m → ⊥
  unfolding first_for
  first_none [] e f = Memᴰ.not-nil f.member
  first_none (n ∷ ns) e f =
      by_test (is_for family code asked n) (λ t. none_some (sym e ∙ first_here n ns t))
      (λ t.
      ⊎_elim (λ is. false≢true (sym t ∙ ap (is_for family code asked) (sym is) ∙ for_fits f))
      (λ member.
      first_none ns (sym (first_next n ns t) ∙ e)
      (record { member = member; has_family = f.has_family; has_code = f.has_code; has_class_lem = f.has_class_lem }))
      (Memᴰ.cases_cons f.member))

-- ---- the table

module _ (k at : ℕ) (before : List Name) where
  pub table_bad : (s : List ℕ) → 1 ≤ length s → front_name s ≡ none → table_by (suc k) before at s ≡ bad_at at
  unfolding table_by table_step record_then
  table_bad [] l e = absurd (omega arith)
  table_bad (b ∷ s) l e = rw e

  pub table_old : (s : List ℕ) {m : Name} → front_name s ≡ some m → is_new before m ≡ false → table_by (suc k) before at s ≡ bad_at at
  unfolding table_by table_step record_then front_name
  table_old [] e f = absurd (none_some e)
  table_old (b ∷ s) e f = rw (e, f, record_then)

  pub table_next : (s : List ℕ) {m : Name} → front_name s ≡ some m → is_new before m ≡ true →
      table_by (suc k) before at s ≡ table_by k (before ++ (m ∷ [])) (at + record_bytes m) (drop (record_bytes m) s)
  unfolding table_by table_step record_then front_name
  table_next [] e f = absurd (none_some e)
  table_next (b ∷ s) e f = rw (e, f, record_then)

-- each of some names is no keyword, and new behind those before it
pub data New : List Name → List Name → Type 0 where
  all : {before : List Name} → New before []
  also : {before : List Name} {m : Name} {ms : List Name} → is_new before m ≡ true → New (before ++ (m ∷ [])) ms → New before (m ∷ ms)

pub record Read (before : List Name) (s : List ℕ) (ns : List Name) : Type 0 where
  pub rest : List Name
  pub are : ns ≡ before ++ rest
  pub records : Records s rest
  pub new : New before rest

pub bad_good : {at : ℕ} {ns : List Name} → bad_at at ≡ names ns → ⊥
bad_good e = let never : ◌≡◌ {A = ℕ} 0 1 = cc in omega arith

table_read : (k at : ℕ) (before : List Name) (s : List ℕ) {ns : List Name} → table_by k before at s ≡ names ns → Read before s ns
unfolding table_by table_step
table_read zero at before s e = absurd (bad_good e)
table_read (suc k) at before [] {ns} e = let is : ns ≡ before = cc in record { rest = []; are = is ∙ sym (append-nil before); records = ended; new = all }
table_read (suc k) at before (b ∷ s) {ns} e =
    by_option (front_name (b ∷ s)) (λ none_there. absurd (bad_good (sym (table_bad k at before (b ∷ s) (omega arith) none_there) ∙ e)))
    (λ m there.
    by_test (is_new before m)
    (λ t.
    let behind = table_read k (at + record_bytes m) (before ++ (m ∷ [])) (drop (record_bytes m) (b ∷ s)) (sym (table_next k at before (b ∷ s) there t) ∙ e) in
    record {
      rest = m ∷ behind.rest;
      are = behind.are ∙ append_assoc before (m ∷ []) behind.rest;
      records = next there behind.records;
      new = also t behind.new;
    })
    (λ t. absurd (bad_good (sym (table_old k at before (b ∷ s) there t) ∙ e))))

-- the names of a good table
pub record Tabled (ns : List Name) (m : Name) : Type 0 where
  pub good : GoodName m
  pub no_keyword : is_keyword m.bytes ≡ false
  pub found : named ns m.bytes ≡ some m

there_none : {A : Type 0} (o : Option A) → is_there o ≡ false → o ≡ none
there_none none e = refl
there_none (some a) e = absurd (false≢true (sym e))

pub records_good : {s : List ℕ} {ns : List Name} {m : Name} → Records s ns → Memᴰ m ns → GoodName m
records_good ended h = absurd (Memᴰ.not-nil h)
records_good (next {s} {m = n} e r) h =
    ⊎_elim (λ is. rw is (front_is s n e).good) (λ member. records_good r member) (Memᴰ.cases_cons h)

new_keyword : {before ns : List Name} {m : Name} → New before ns → Memᴰ m ns → is_keyword m.bytes ≡ false
new_keyword all h = absurd (Memᴰ.not-nil h)
new_keyword (also {m = n} t r) h =
    ⊎_elim (λ is. rw is (not-true (is_keyword n.bytes) (both_true t).0)) (λ member. new_keyword r member) (Memᴰ.cases_cons h)

new_named : {before ns : List Name} {m : Name} → New before ns → Memᴰ m ns → named (before ++ ns) m.bytes ≡ some m
new_named all h = absurd (Memᴰ.not-nil h)
new_named {m = x} (also {before} {m = n} {ms} t r) h =
    let absent = there_none (named before n.bytes) (not-true _ (both_true {p = not (is_keyword n.bytes)} t).1) in
    ⊎_elim (λ is. rw is (named_append before (n ∷ ms) n.bytes absent ∙ named_first n ms n.bytes (same_own n.bytes)))
    (λ member. rw (append_assoc before (n ∷ []) ms) at (new_named {m = x} r member)) (Memᴰ.cases_cons h)

module _ (s : List ℕ) {ns : List Name} (e : table_of s ≡ names ns) where
  all_read : Read [] s ns
  unfolding table_of
  all_read = table_read (suc (length s)) 0 [] s e

  pub table_records : Records s ns
  table_records = rw all_read.are all_read.records

  pub table_names : {m : Name} → Memᴰ m ns → Tabled ns m
  table_names h =
      let new = rw (← all_read.are) at all_read.new in
      record { good = records_good table_records h; no_keyword = new_keyword new h; found = new_named new h }
