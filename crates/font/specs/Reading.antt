-- Bytes of a table, as loops read them.
--     part_of, rest_of     what `&t[a..a + k]` and `&t[a..]` hold
--     Left                 the invariant of a loop that tests records, of which the records that are left are a list: on by `first_passed`, to the end by `none_left`
--     Passing              the invariant of a loop that tests records, which goes on to the next by `again`, or is `finished`
-- Assumes nothing.
use Rattle.std.specs.Prelude.{◌≡◌, Bool, true, ◌&&◌, List, ℕ, suc, ◌+◌, ◌-◌, ◌<◌, ◌≤◌, length, take, drop}
use Rattle.std.proofs.Common.{sym, ◌∙◌, arith, length-drop, take_all, drop-drop}
use Rattle.std.proofs.Math.Bool.{and-true, and_assoc}

-- ---- a part of a slice, as the code takes it

pub part_of : (a k : ℕ) (t : List ℕ) → take (a + k - a) (drop a t) ≡ take k (drop a t)
part_of a k t = let size : a + k - a ≡ k = omega arith in rw size

pub rest_of : (a : ℕ) (t : List ℕ) → take (length t - a) (drop a t) ≡ drop a t
rest_of a t = take_all (length t - a) (drop a t) (simp length-drop (omega arith))

-- ---- records that are taken off the front

-- `whole` says that each of some records passes a test: those so far do if `good`, and P says so of those that are left
pub record Left (P : List ℕ → Bool) (whole good : Bool) (s : List ℕ) : Type 0 where
  pub rest : whole ≡ (good && P s)

module _ {P : List ℕ → Bool} {whole good : Bool} {s : List ℕ} (l : Left P whole good s) where
  -- none is left
  pub none_left : P s ≡ true → whole ≡ good
  none_left none = l.rest ∙ rw none (and-true good)

  -- the test of the first came to t, and of those behind it, u, Q says what P said
  pub first_passed : (Q : List ℕ → Bool) (t : Bool) (u : List ℕ) → P s ≡ (t && Q u) → Left Q whole (good && t) u
  first_passed Q t u first = record { rest = l.rest ∙ rw first (sym (and_assoc good t (Q u))) }

-- ---- records one after the other

-- `whole` says that each of n records passes a test: those so far do if `good`, and P says so of those that are left, from a place
-- on. The invariant of a loop that has tested i of them
pub record Passing (P : ℕ → List ℕ → Bool) (whole : Bool) (n : ℕ) (s : List ℕ) (at i : ℕ) (good : Bool) : Type 0 where
  pub passed : i ≤ n
  pub rest : whole ≡ (good && P (n - i) (drop at s))

module _ {P : ℕ → List ℕ → Bool} {whole good : Bool} {n at i : ℕ} {s : List ℕ} (p : Passing P whole n s at i good) where
  -- all have been tested
  pub finished : n ≤ i → ((u : List ℕ) → P 0 u ≡ true) → whole ≡ good
  finished l none =
      let done : n - i ≡ 0 = omega arith in
      p.rest ∙ rw (done, none (drop at s)) (and-true good)

  -- the first of k bytes, whose test came to t; of those behind it Q says what P said
  pub again : (Q : ℕ → List ℕ → Bool) (k : ℕ) (t : Bool) {b : ℕ} → i < n → b ≡ at + k →
      ((m : ℕ) → n - i ≡ suc m → P (suc m) (drop at s) ≡ (t && Q m (drop k (drop at s)))) →
      Passing Q whole n s b (i + 1) (good && t)
  again Q k t {b} more next first =
      let left : n - i ≡ suc (n - (i + 1)) = omega arith in
      let turn : P (n - i) (drop at s) ≡ (t && Q (n - (i + 1)) (drop b s)) =
      rw (left, next, ← drop-drop) (first (n - (i + 1)) left) in
      record { passed = omega arith; rest = p.rest ∙ rw turn (sym (and_assoc good t _)) }
