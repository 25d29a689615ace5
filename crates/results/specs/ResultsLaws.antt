-- The answer to a result and the buffer after it, case by case.
--     answer_refused, buffer_refused     a refusal
--     answer_full, buffer_full           bytes that have no room
--     answer_made, buffer_made           bytes that have room; `buffer_stored`, the buffer as stores that start at 0
--     answer_bytes                       no more bytes are written than there is room for
--     answer_place                       the place of an answer is 0, or that of the refusal
-- Assumes nothing.
use Rattle.std.specs.Prelude.{◌≡◌, refl, Bool, true, false, cond, List, ◌++◌, ℕ, ◌+◌, ◌≤◌, ◌<◌, leb, length, drop}
use Rattle.std.proofs.Common.{sym, ◌∙◌, arith}
use borrow.Author.Tests.{leb-true, le-leb, lt-leb}
use Rattle.std.proofs.lemmas.List.Edits.{sets, sets-eq}
use Rattle.results.specs.Results.{Result, made, refused, accepted, refusal, answer_by, buffer_by}

module _ {r : Result} {number place : ℕ} (e : r ≡ refused number place) where
  pub answer_refused : (full room : ℕ) → answer_by full room r ≡ refusal number place
  unfolding answer_by
  answer_refused full room = rw e

  pub buffer_refused : (buffer : List ℕ) → buffer_by buffer r ≡ buffer
  unfolding buffer_by
  buffer_refused buffer = rw e

module _ {r : Result} {b : List ℕ} (e : r ≡ made b) where
  pub answer_full : (full room : ℕ) → room < length b → answer_by full room r ≡ refusal full 0
  unfolding answer_by
  answer_full full room h = rw (e, lt-leb (length b) room h)

  pub buffer_full : (buffer : List ℕ) → length buffer < length b → buffer_by buffer r ≡ buffer
  unfolding buffer_by
  buffer_full buffer h = rw (e, lt-leb (length b) (length buffer) h)

  pub answer_made : (full room : ℕ) → length b ≤ room → answer_by full room r ≡ accepted (length b)
  unfolding answer_by
  answer_made full room h = rw (e, le-leb (length b) room h)

  pub buffer_made : (buffer : List ℕ) → length b ≤ length buffer → buffer_by buffer r ≡ b ++ drop (length b) buffer
  unfolding buffer_by
  buffer_made buffer h = rw (e, le-leb (length b) (length buffer) h)

  pub buffer_stored : (buffer : List ℕ) → length b ≤ length buffer → buffer_by buffer r ≡ sets buffer 0 b
  buffer_stored buffer h =
      let none_before : 0 + length b ≡ length b = omega arith in
      buffer_made buffer h ∙ sym (rw none_before at (sets-eq b buffer 0 (omega arith)))

pub answer_bytes : (full room : ℕ) (r : Result) → (answer_by full room r).bytes ≤ room
unfolding answer_by
answer_bytes full room (made b) = go (leb (length b) room) refl
  where
    go : (t : Bool) → leb (length b) room ≡ t → (cond t (accepted (length b)) (refusal full 0)).bytes ≤ room
    go true e = leb-true (length b) room e
    go false e = omega arith
answer_bytes full room (refused number place) = omega arith

pub answer_place : (P : ℕ → Type 0) → P 0 → (full room : ℕ) (r : Result) → ((n p : ℕ) → r ≡ refused n p → P p) → P (answer_by full room r).place
unfolding answer_by
answer_place P zero-holds full room (made b) h = go (leb (length b) room)
  where
    go : (t : Bool) → P (cond t (accepted (length b)) (refusal full 0)).place
    go true = zero-holds
    go false = zero-holds
answer_place P zero-holds full room (refused number place) h = h number place refl
