-- Laws of the records of a name table.
--     WellFormed, true_well_formed, well_formed_true     the test of a record, and what it tests
--     front_there, front_absent, front_named     whether a record stands at the front and which, by the bytes at their places
--     behind_first                 a place behind the first byte
--     GoodName, Fronts, stored     what a record's name is, and its bytes before others
--     front_own, front_is, fronts_size     a good name is found in its own bytes, and only such a name is found
--     front_append, front_alone    a record does not depend on what stands behind it
--     records_append, records_one, records_more       records behind records
--     records_stop, records_first, records_none, records_open        what stands at the front of records
-- The idea: a record is found exactly where its bytes stand (`Fronts`), so it can be cut off and put before other bytes.
-- Assumes nothing.
use Rattle.std.specs.Prelude.{◌≡◌, refl, true, ◌&&◌, List, [], ◌∷◌, ◌++◌, ℕ, suc, ◌+◌, ◌≤◌, leb, length, take, drop, get_or}
use Rattle.std.proofs.Common.{sym, ap, ◌∙◌, append_assoc, arith, le-leb, leb-true, length-append, take-append-drop, drop_of_length-le, get_or-drop, length-take-le, get_or-append-add, take-add}
use Rattle.std.proofs.Math.Option.{none, some}
use Rattle.std.proofs.lemmas.List.{drop-append-le}
use Rattle.std.proofs.Math.Seq.{take-append_seam, get_or-append_seam, take-append-add}
use Rattle.laws.specs.Options.{none_some}
use Rattle.laws.specs.Truths.{by_test, both_true}
use Rattle.eqn_tokens.specs.Bytes.{all_word_bytes}
use Rattle.eqn_tokens.specs.BytesLaws.{here}
use Rattle.formula.specs.Heads.{greatest_family, greatest_class}
use Rattle.eqn_names.specs.Names.{Name, longest_name, name_in, record_bytes, well_formed, front_name, Records, ended, next}

-- ---- the record at the front

pub record WellFormed (n : ℕ) (s : List ℕ) : Type 0 where
  pub least : 1 ≤ n
  pub most : n ≤ longest_name
  pub room : n + 3 ≤ length s
  pub words : all_word_bytes (take n s) ≡ true
  pub family : get_or s n 0 ≤ greatest_family
  pub class : get_or s (n + 2) 0 ≤ greatest_class

module _ (n : ℕ) (s : List ℕ) where
  pub true_well_formed : well_formed n s ≡ true → WellFormed n s
  true_well_formed t =
      let a = both_true {p = leb 1 n && leb n longest_name && leb (n + 3) (length s) && all_word_bytes (take n s) && leb (get_or s n 0) greatest_family} t in
      let b = both_true {p = leb 1 n && leb n longest_name && leb (n + 3) (length s) && all_word_bytes (take n s)} a.0 in
      let c = both_true {p = leb 1 n && leb n longest_name && leb (n + 3) (length s)} b.0 in
      let d = both_true {p = leb 1 n && leb n longest_name} c.0 in
      let e = both_true {p = leb 1 n} d.0 in
      record {
        least = leb-true _ _ e.0;
        most = leb-true _ _ e.1;
        room = leb-true _ _ d.1;
        words = c.1;
        family = leb-true _ _ b.1;
        class = leb-true _ _ a.1;
      }

  pub well_formed_true : WellFormed n s → well_formed n s ≡ true
  well_formed_true f =
      rw
      (le-leb 1 n f.least, le-leb n longest_name f.most, le-leb (n + 3) (length s) f.room, f.words, le-leb (get_or s n 0) greatest_family f.family, le-leb (get_or s (n + 2) 0) greatest_class f.class)

  front_some : WellFormed n s → front_name (n ∷ s) ≡ some (name_in n s)
  unfolding front_name
  front_some f = rw (well_formed_true f, front_name)

  front_none : (WellFormed n s → ⊥) → front_name (n ∷ s) ≡ none
  unfolding front_name
  front_none bad = by_test (well_formed n s) (λ t. absurd (bad (true_well_formed t))) (λ t. rw (t, front_name))

-- by the bytes at their places
pub front_there : (s : List ℕ) → WellFormed (get_or s 0 0) (drop 1 s) → front_name s ≡ some (name_in (get_or s 0 0) (drop 1 s))
front_there [] f = absurd (omega (arith, f.least))
front_there (n ∷ s) f = front_some n s f

pub front_absent : (s : List ℕ) → (WellFormed (get_or s 0 0) (drop 1 s) → ⊥) → front_name s ≡ none
unfolding front_name
front_absent [] bad = refl
front_absent (n ∷ s) bad = front_none n s bad

-- whatever record stands there
pub front_named : (s : List ℕ) {m : Name} → front_name s ≡ some m → m ≡ name_in (get_or s 0 0) (drop 1 s)
unfolding front_name
front_named [] e = absurd (none_some e)
front_named (n ∷ s) {m} e =
    by_test (well_formed n s) (λ t. let made = front_some n s (true_well_formed n s t) in cc) (λ t. absurd (none_some (sym (rw (t, front_name)) ∙ e)))

pub behind_first : (s : List ℕ) {i : ℕ} (n : ℕ) → i ≡ n + 1 → get_or s i 0 ≡ get_or (drop 1 s) n 0
behind_first s {i} n e = let swapped : 1 + n ≡ i = omega arith in sym (get_or-drop 1 s n 0 ∙ ap (λ (j : ℕ). get_or s j 0) swapped)

-- ---- a record's own bytes

pub record GoodName (m : Name) : Type 0 where
  pub least : 1 ≤ length m.bytes
  pub most : length m.bytes ≤ longest_name
  pub words : all_word_bytes m.bytes ≡ true
  pub family : m.family ≤ greatest_family
  pub class : m.class ≤ greatest_class

-- a record before others
abbrev pub stored : Name → List ℕ → List ℕ
stored m r = length m.bytes ∷ (m.bytes ++ (m.family ∷ m.code ∷ m.class ∷ r))

pub record Fronts (s : List ℕ) (m : Name) : Type 0 where
  pub good : GoodName m
  pub bytes : s ≡ stored m (drop (record_bytes m) s)

module _ (m : Name) (r : List ℕ) where
  abbrev behind : List ℕ
  behind = m.family ∷ m.code ∷ m.class ∷ r

  size : record_bytes m ≡ suc (length m.bytes + 3)
  size = omega arith

  pub stored_take : take (record_bytes m) (stored m r) ≡ stored m []
  stored_take = rw (size, take-append-add m.bytes behind 3)

  pub stored_append : (u : List ℕ) → stored m r ++ u ≡ stored m (r ++ u)
  stored_append u = ap (λ (s : List ℕ). length m.bytes ∷ s) (append_assoc m.bytes behind u)

  pub front_own : GoodName m → front_name (stored m r) ≡ some m
  front_own g =
      let n = length m.bytes in
      let s = m.bytes ++ behind in
      let name : take n s ≡ m.bytes = take-append_seam m.bytes behind in
      let at-family : get_or s n 0 ≡ m.family = get_or-append_seam m.bytes m.family (m.code ∷ m.class ∷ r) 0 in
      let at_code : get_or s (n + 1) 0 ≡ m.code = get_or-append-add m.bytes behind 1 0 in
      let at-class : get_or s (n + 2) 0 ≡ m.class = get_or-append-add m.bytes behind 2 0 in
      let made =
      front_some n s
      (record {
        least = g.least;
        most = g.most;
        room = omega (arith, length-append m.bytes behind);
        words = rw name g.words;
        family = rw at-family g.family;
        class = rw at-class g.class;
      }) in
      made ∙ rw (name, at-family, at_code, at-class)

-- three bytes behind n others
three_behind : (n : ℕ) (s : List ℕ) → n + 3 ≤ length s → take n s ++ (get_or s n 0 ∷ get_or s (n + 1) 0 ∷ get_or s (n + 2) 0 ∷ drop (n + 3) s) ≡ s
three_behind n s l =
    let two : n + 1 + 1 ≡ n + 2 = omega arith in
    let three : n + 2 + 1 ≡ n + 3 = omega arith in
    let first = here s n (omega arith) in
    let second = rw two at (here s (n + 1) (omega arith)) in
    let third = rw three at (here s (n + 2) (omega arith)) in
    rw (← third, ← second, ← first) (take-append-drop n s)

pub front_is : (s : List ℕ) (m : Name) → front_name s ≡ some m → Fronts s m
unfolding front_name
front_is [] m e = absurd (none_some e)
front_is (n ∷ s) m e = by_test (well_formed n s) (λ t. found (true_well_formed n s t)) (λ t. absurd (none_some (sym (rw (t, front_name)) ∙ e)))
  where
    found : WellFormed n s → Fronts (n ∷ s) m
    found f =
        let is : m ≡ name_in n s = (let made = front_some n s f in cc) in
        let long : length (take n s) ≡ n = length-take-le n s (omega (arith, f.room)) in
        let four : n + 4 ≡ suc (n + 3) = omega arith in
        rw is
        (record {
          good =
              record {
                least = rw long f.least;
                most = rw long f.most;
                words = f.words;
                family = f.family;
                class = f.class;
              };
          bytes = rw (long, four) (ap (λ (r : List ℕ). n ∷ r) (sym (three_behind n s f.room)));
        })

pub fronts_size : {s : List ℕ} {m : Name} → Fronts s m → record_bytes m ≤ length s
fronts_size {s} {m} f =
    let rest = drop (record_bytes m) s in
    omega (arith, ap (λ (t : List ℕ). length t) f.bytes, length-append m.bytes (m.family ∷ m.code ∷ m.class ∷ rest))

-- a record does not depend on what stands behind it
pub front_append : (s : List ℕ) {m : Name} (u : List ℕ) → front_name s ≡ some m → front_name (s ++ u) ≡ some m
front_append s {m} u e =
    let f = front_is s m e in
    let rest = drop (record_bytes m) s in
    ap (λ (t : List ℕ). front_name (t ++ u)) f.bytes ∙ ap front_name (stored_append m rest u) ∙ front_own m (rest ++ u) f.good

pub front_alone : (s : List ℕ) {m : Name} → front_name s ≡ some m → front_name (take (record_bytes m) s) ≡ some m
front_alone s {m} e =
    let f = front_is s m e in
    let rest = drop (record_bytes m) s in
    ap (λ (t : List ℕ). front_name (take (record_bytes m) t)) f.bytes ∙ ap front_name (stored_take m rest) ∙ front_own m [] f.good

-- ---- records, one behind the other

pub records_append : {s t : List ℕ} {ms ns : List Name} → Records s ms → Records t ns → Records (s ++ t) (ms ++ ns)
records_append ended r = r
records_append {t = t} {ns = ns} (next {s} {m} {ms} e q) r =
    next {ms = ms ++ ns} (front_append s t e) (rw (drop-append-le (record_bytes m) s t (fronts_size (front_is s m e))) (records_append q r))

pub records_one : (s : List ℕ) {m : Name} → front_name s ≡ some m → Records (take (record_bytes m) s) (m ∷ [])
records_one s {m} e =
    let long : length (take (record_bytes m) s) ≡ record_bytes m = length-take-le (record_bytes m) s (fronts_size (front_is s m e)) in
    next {ms = []} (front_alone s e) (rw (drop_of_length-le (take (record_bytes m) s) {i = record_bytes m} (omega arith)) ended)

-- some records of a table and the one behind them
pub records_more : (at : ℕ) (s : List ℕ) {ms : List Name} {m : Name} → Records (take at s) ms → front_name (drop at s) ≡ some m →
    Records (take (at + record_bytes m) s) (ms ++ (m ∷ []))
records_more at s {ms} {m} r e = rw (take-add at (record_bytes m) s) (records_append r (records_one (drop at s) e))

-- what stands at the front of records
pub records_stop : {s : List ℕ} {ms : List Name} → Records s ms → front_name s ≡ none → s ≡ []
records_stop ended e = refl
records_stop (next f r) e = absurd (none_some (sym e ∙ f))

pub records_first : {s : List ℕ} {ms : List Name} → Records s ms → 1 ≤ length s → (m : Name) × (front_name s ≡ some m)
records_first ended l = absurd (omega arith)
records_first (next {m = m} e r) l = (m, e)

pub records_none : {s : List ℕ} {ms : List Name} → Records s ms → s ≡ [] → ms ≡ []
unfolding front_name
records_none ended e = refl
records_none (next f r) e = absurd (none_some (ap front_name (sym e) ∙ f))

pub record Opened (s : List ℕ) (m : Name) (ns : List Name) : Type 0 where
  pub rest : List Name
  pub first : ns ≡ m ∷ rest
  pub behind : Records (drop (record_bytes m) s) rest

pub records_open : {s : List ℕ} {m : Name} {ns : List Name} → Records s ns → front_name s ≡ some m → Opened s m ns
unfolding front_name
records_open ended e = absurd (none_some e)
records_open {m = m} (next {s} {m = n} {ms} f r) e =
    let is : n ≡ m = cc in
    record { rest = ms; first = ap (λ (x : Name). x ∷ ms) is; behind = rw is at r }
