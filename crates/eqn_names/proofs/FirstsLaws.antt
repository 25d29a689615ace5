-- The first records of the hashes, kept one record after the other.
--     hash_small, hash_here     a hash is below `places`; it is made one byte after the other
--     kept_stored, kept_early     what is kept for a hash
--     Indexed                   each word is found among the records before a place from the place of its hash on; with its start, its turn and its end
-- The idea: a place that is kept stands before the loop's place, so that each new record stands behind it; one that is not kept is the
-- table's end, behind which there is no record. A record whose hash has no place yet is the first that can have the word's bytes.
-- Assumes nothing.
use mathlib.Core.Path.{◌≡◌, refl, sym, ap, ◌∙◌}
use mathlib.Core.Bool.{Bool, true, false}
use mathlib.Core.List.{List, [], ◌∷◌, ◌++◌}
use mathlib.Core.Logic.{◌⊎◌, inl, inr, ⊎_elim}
use mathlib.Core.Option.{none, some}
use Prim.Native.Nat.{ℕ, ◌+◌, ◌≤◌, ◌<◌}
use native.Mathlib.Omega.{arith}
use borrow.Author.Tests.{lt-ltb, le-ltb, eqb-true, eqb-false}
use lib.Dec.{ltb, eqb}
use lib.ListN.{length, take, drop, get_or, set, length-set, length-take, drop_of_length-le}
use lib.Seq.{get_or-set_same, get_or-set_other, drop-append-le, take-add, take_all, length-take-le}
use Rattle.laws.specs.Truths.{by_test}
use Rattle.eqn_tokens.specs.BytesLaws.{here, same_not}
use Rattle.eqn_names.specs.Names.{Name, front_name, record_bytes, named, Records, ended}
use Rattle.eqn_names.specs.Firsts.{places, mix, hash_from, hash_of, From, Listed, kept}
use Rattle.eqn_names.proofs.NamesLaws.{named_next, named_append, named_more}
use Rattle.eqn_names.specs.RecordsLaws.{records_append, records_one, records_none}

-- ---- hashes

hash_small_from : (h : ℕ) (s : List ℕ) → h < places → hash_from h s < places
unfolding hash_from
hash_small_from h [] l = l
hash_small_from h (b ∷ s) l = hash_small_from (mix h b) s (omega arith)

pub hash_small : (s : List ℕ) → hash_of s < places
hash_small s = hash_small_from 0 s (omega arith)

pub hash_here : (h : ℕ) (s : List ℕ) (i : ℕ) → i < length s → hash_from h (drop i s) ≡ hash_from (mix h (get_or s i 0)) (drop (i + 1) s)
unfolding hash_from
hash_here h s i l = rw (here s i l)

-- ---- what is kept

module _ (f : List ℕ) (h at : ℕ) where
  pub kept_long : length (kept f h at) ≡ length f
  kept_long = go (ltb at (get_or f h 0))
    where
      go : (t : Bool) → length {A = ℕ} (elim t [ true ↦ set f h at | false ↦ f ]) ≡ length f
      go true = length-set f h at
      go false = refl

  kept_other : (k : ℕ) → (k ≡ h → ⊥) → get_or (kept f h at) k 0 ≡ get_or f k 0
  kept_other k other = go (ltb at (get_or f h 0))
    where
      go : (t : Bool) → get_or {A = ℕ} (elim t [ true ↦ set f h at | false ↦ f ]) k 0 ≡ get_or f k 0
      go true = get_or-set_other f h k at 0 other
      go false = refl

  pub kept_stored : at < get_or f h 0 → kept f h at ≡ set f h at
  kept_stored l = rw (lt-ltb at (get_or f h 0) l, kept)

  pub kept_early : get_or f h 0 ≤ at → kept f h at ≡ f
  kept_early l = rw (le-ltb at (get_or f h 0) l, kept)

  kept_late : at < get_or f h 0 → h < length f → get_or (kept f h at) h 0 ≡ at
  kept_late l room = ap (λ (g : List ℕ). get_or g h 0) (kept_stored l) ∙ get_or-set_same f h at 0 room

-- ---- records that are kept

pub record Indexed (s f : List ℕ) (at : ℕ) (before : List Name) : Type 0 where
  pub long : length f ≡ places
  pub from : (w : List ℕ) → From (take at s) before w (get_or f (hash_of w) 0)
  pub apart : (w : List ℕ) → (get_or f (hash_of w) 0 < at) ⊎ (length s ≤ get_or f (hash_of w) 0)

-- behind the end there is no record
none_behind : (s : List ℕ) (at p : ℕ) → length s ≤ p → Records (drop p (take at s)) []
none_behind s at p l = rw (drop_of_length-le (take at s) {i = p} (omega (arith, length-take at s))) ended

pub indexed_none : (s f : List ℕ) → length f ≡ places → ((h : ℕ) → h < places → get_or f h 0 ≡ length s) → Indexed s f 0 []
indexed_none s f l e =
    record {
      long = l;
      from = λ w. ([], none_behind s 0 (get_or f (hash_of w) 0) (omega (arith, e (hash_of w) (hash_small w))), refl);
      apart = λ w. inr (omega (arith, e (hash_of w) (hash_small w)));
    }

pub indexed_all : {s f : List ℕ} {at : ℕ} {before : List Name} → Indexed s f at before → Records (take at s) before → length s ≤ at → Listed s f before
indexed_all {s} {f} {at} {before} x r l =
    let whole = take_all at s l in
    record { records = rw whole at r; firsts = λ w. rw whole at (x.from w) }

module _ {s f : List ℕ} {at : ℕ} {before : List Name} (x : Indexed s f at before) {m : Name} (there : front_name (drop at s) ≡ some m)
    (room : at + record_bytes m ≤ length s) where
  abbrev behind : ℕ
  behind = at + record_bytes m

  -- a place that is kept
  more_from : (w : List ℕ) (p : ℕ) → p ≤ at → From (take at s) before w p → From (take behind s) (before ++ (m ∷ [])) w p
  more_from w p l q =
      let long : p ≤ length (take at s) = omega (arith, length-take-le at s (omega arith)) in (
        q.0 ++ (m ∷ []),
        rw (take-add at (record_bytes m) s, drop-append-le p (take at s) (take (record_bytes m) (drop at s)) long)
            (records_append q.1 (records_one (drop at s) there)),
        named_more before q.0 (m ∷ []) w q.2,
      )

  -- a word whose hash has no place yet is not there
  absent : (w : List ℕ) → length s ≤ get_or f (hash_of w) 0 → named before w ≡ none
  unfolding named
  absent w l =
      let q = x.from w in
      let empty = drop_of_length-le (take at s) {i = get_or f (hash_of w) 0} (omega (arith, length-take at s)) in
      q.2 ∙ ap (λ (ms : List Name). named ms w) (records_none q.1 empty)

  abbrev new : List ℕ
  new = kept f (hash_of m.bytes) at

  record Turned (w : List ℕ) (p : ℕ) : Type 0 where
    from : From (take behind s) (before ++ (m ∷ [])) w p
    apart : (p < behind) ⊎ (length s ≤ p)

  -- a place is kept already
  early : (w : List ℕ) → get_or f (hash_of w) 0 < at → Turned w (get_or new (hash_of w) 0)
  early w l =
      let is : get_or new (hash_of w) 0 ≡ get_or f (hash_of w) 0 =
      by_test (eqb (hash_of w) (hash_of m.bytes))
      (λ t.
      let e = eqb-true (hash_of w) (hash_of m.bytes) t in
      ap (λ (g : List ℕ). get_or g (hash_of w) 0)
      (kept_early f (hash_of m.bytes) at (omega (arith, ap (λ (h : ℕ). get_or f h 0) e))))
      (λ t. kept_other f (hash_of m.bytes) at (hash_of w) (eqb-false (hash_of w) (hash_of m.bytes) t)) in
      rw is (record { from = more_from w (get_or f (hash_of w) 0) (omega arith) (x.from w); apart = inl (omega arith) })

  -- the record is the first of its hash
  first : (w : List ℕ) → length s ≤ get_or f (hash_of w) 0 → hash_of w ≡ hash_of m.bytes → Turned w (get_or new (hash_of w) 0)
  unfolding named
  first w l e =
      let late : at < get_or f (hash_of m.bytes) 0 = omega (arith, ap (λ (h : ℕ). get_or f h 0) e) in
      let is : get_or new (hash_of w) 0 ≡ at =
      ap (λ (h : ℕ). get_or new h 0) e ∙ kept_late f (hash_of m.bytes) at late (omega (arith, hash_small m.bytes, x.long)) in
      let alone : Records (drop at (take at s)) [] = rw (drop_of_length-le (take at s) {i = at} (omega (arith, length-take at s))) ended in
      rw is (record { from = more_from w at (omega arith) ([], alone, absent w l); apart = inl (omega arith) })

  -- the record has another hash than the word
  other : (w : List ℕ) → length s ≤ get_or f (hash_of w) 0 → (hash_of w ≡ hash_of m.bytes → ⊥) → Turned w (get_or new (hash_of w) 0)
  unfolding named
  other w l differ =
      let is = kept_other f (hash_of m.bytes) at (hash_of w) differ in
      let foreign = same_not m.bytes w (λ e. differ (ap (λ (v : List ℕ). hash_of v) (sym e))) in
      rw is
      (record {
        from = ([], none_behind s behind (get_or f (hash_of w) 0) l, named_append before (m ∷ []) w (absent w l) ∙ named_next m [] w foreign);
        apart = inr l;
      })

  turned : (w : List ℕ) → Turned w (get_or new (hash_of w) 0)
  turned w =
      ⊎_elim (early w)
      (λ l.
      by_test (eqb (hash_of w) (hash_of m.bytes)) (λ t. first w l (eqb-true (hash_of w) (hash_of m.bytes) t))
      (λ t. other w l (eqb-false (hash_of w) (hash_of m.bytes) t)))
      (x.apart w)

  pub indexed_next : Indexed s new behind (before ++ (m ∷ []))
  indexed_next =
      record {
        long = kept_long f (hash_of m.bytes) at ∙ x.long;
        from = λ w. (turned w).from;
        apart = λ w. (turned w).apart;
      }
