-- What is answered, and what becomes of the buffer, case by case.
--     answer_refused, buffer_refused     bytes that are not nodes
--     answer_full, buffer_full           a result without room
--     answer_made, buffer_made           a result with room
--     answer_within                      no more is written than there is room for
--     place_zero                         every answer has the place 0
-- Assumes nothing.
use Rattle.std.specs.Prelude.{◌≡◌, refl, List, ◌++◌, ℕ, ◌≤◌, ◌<◌, length, drop}
use Rattle.std.proofs.Common.{sym, arith}
use Rattle.std.proofs.Math.Option.{Option, none, some}
use Rattle.nodes.specs.Nodes.{Node}
use Rattle.results.specs.Results.{made, refused, accepted, refusal}
use Rattle.results.specs.ResultsLaws as results
use Rattle.dvi.specs.declared.forms.Form.{Form}
use Rattle.dvi.specs.Forms.{other_form, bytes_as, nodes_in}
use Rattle.dvi.specs.Answers.{refusal_number, no_room_number, if_read, result_of, answering, buffer_after}

module _ (from : Form) (s : List ℕ) (e : nodes_in from s ≡ none) where
  result_refused : result_of from s ≡ refused (refusal_number from) 0
  unfolding result_of if_read
  result_refused = rw e

  pub answer_refused : (room : ℕ) → answering from s room ≡ refusal (refusal_number from) 0
  unfolding answering
  answer_refused room = results.answer_refused result_refused no_room_number room

  pub buffer_refused : (b : List ℕ) → buffer_after from s b ≡ b
  unfolding buffer_after
  buffer_refused b = results.buffer_refused result_refused b

module _ (from : Form) (s : List ℕ) {ns : List Node} (e : nodes_in from s ≡ some ns) where
  result_made : result_of from s ≡ made (bytes_as (other_form from) ns)
  unfolding result_of if_read
  result_made = rw e

  pub answer_full : (room : ℕ) → room < length (bytes_as (other_form from) ns) → answering from s room ≡ refusal no_room_number 0
  unfolding answering
  answer_full room l = results.answer_full result_made no_room_number room l

  pub buffer_full : (b : List ℕ) → length b < length (bytes_as (other_form from) ns) → buffer_after from s b ≡ b
  unfolding buffer_after
  buffer_full b l = results.buffer_full result_made b l

  pub answer_made : (room : ℕ) → length (bytes_as (other_form from) ns) ≤ room →
      answering from s room ≡ accepted (length (bytes_as (other_form from) ns))
  unfolding answering
  answer_made room l = results.answer_made result_made no_room_number room l

  pub buffer_made : (b : List ℕ) → length (bytes_as (other_form from) ns) ≤ length b →
      buffer_after from s b ≡ bytes_as (other_form from) ns ++ drop (length (bytes_as (other_form from) ns)) b
  unfolding buffer_after
  buffer_made b l = results.buffer_made result_made b l

pub answer_within : (from : Form) (s : List ℕ) (room : ℕ) → (answering from s room).bytes ≤ room
unfolding answering
answer_within from s room = results.answer_bytes no_room_number room (result_of from s)

refused_at_zero : (from : Form) (o : Option (List Node)) (n p : ℕ) → if_read from o ≡ refused n p → p ≡ 0
unfolding if_read
refused_at_zero from none n p e = let z : 0 ≡ p = cc in sym z
refused_at_zero from (some ns) n p e = let no : ◌≡◌ {A = ℕ} 0 1 = cc in absurd (omega arith)

pub place_zero : (from : Form) (s : List ℕ) (room : ℕ) → (answering from s room).place ≡ 0
unfolding answering result_of
place_zero from s room =
    results.answer_place (λ (p : ℕ). p ≡ 0) refl no_room_number room (result_of from s) (refused_at_zero from (nodes_in from s))
