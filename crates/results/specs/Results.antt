-- Bytes that are made of other bytes and written at the front of a lent buffer (requests 10 and 14).
--     Result       what is made, or the number and the place of a refusal
--     Answered     an answer: its number, its place, and how many bytes were written
--     answer_by     the answer to a result, in a buffer of some length; `full` is the number where that is too short
--     buffer_by     the buffer after it: the result at its front, or as it was
-- Assumes nothing.
use Rattle.std.specs.Prelude.{cond, List, ◌++◌, ℕ, leb, length, drop}

abbrev pub accepted_number : ℕ
accepted_number = 0

pub data Result : Type 0 where
  made : List ℕ → Result
  refused : ℕ → ℕ → Result

pub record Answered : Type 0 where
  pub number : ℕ
  pub place : ℕ
  pub bytes : ℕ  -- how many were written

abbrev pub accepted : ℕ → Answered
accepted n = record { number = accepted_number; place = 0; bytes = n }

abbrev pub refusal : ℕ → ℕ → Answered
refusal number place = record { number = number; place = place; bytes = 0 }

unfoldable pub answer_by : ℕ → ℕ → Result → Answered
answer_by full room (made b) = cond (leb (length b) room) (accepted (length b)) (refusal full 0)
answer_by full room (refused number place) = refusal number place

-- an acceptance writes the result at the buffer's front, a refusal nothing
unfoldable pub buffer_by : List ℕ → Result → List ℕ
buffer_by buffer (made b) = cond (leb (length b) (length buffer)) (b ++ drop (length b) buffer) buffer
buffer_by buffer (refused number place) = buffer
