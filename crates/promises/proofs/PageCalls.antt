-- A page's body written and read, or read and written, by two calls with a buffer each (request 14). What a call has written is the front
-- of its buffer, as many bytes as it answers. Given to the other call, with room for the first call's bytes, it is accepted, and these bytes
-- stand in the other buffer.
--     written           the front of a buffer after a call
--     BackAgain         what the second call answers, and its buffer
--     calls_back        there and back over both calls, whichever is the first
-- Assumes nothing.
use Rattle.std.specs.Prelude.{◌≡◌, refl, List, ◌++◌, ℕ, ◌≤◌, leb, length, drop}
use Rattle.std.proofs.Common.{sym, ◌∙◌, arith, leb-true, leb-false}
use Rattle.std.proofs.Math.Path.{ap, ap₂}
use Rattle.std.proofs.Math.Option.{Option, none, some}
use Rattle.std.proofs.Math.ListN.{take}
use Rattle.std.proofs.Math.Seq.{take-append_seam}
use Rattle.laws.specs.Truths.{by_test}
use Rattle.nodes.specs.Nodes.{Node}
use Rattle.results.specs.Results.{Answered, accepted_number, made, accepted}
use Rattle.results.specs.ResultsLaws as results
use Rattle.dvi.specs.declared.forms.Form.{Form}
use Rattle.dvi.specs.declared.forms.Form.TheVariants.{Stored, Body}
use Rattle.dvi.specs.Forms.{other_form, bytes_as, nodes_in}
use Rattle.dvi.specs.Answers.{refusal_number, no_room_number, if_read, result_of, answering, buffer_after}
use Rattle.dvi.specs.AnswerLaws.{answer_refused, answer_full}
use Rattle.dvi.proofs.RoundTrip.{there_and_back}

-- the bytes that a call has written of s into a buffer
abbrev pub written : Form → List ℕ → List ℕ → List ℕ
written from s buffer = take (answering from s (length buffer)).bytes (buffer_after from s buffer)

-- of what the call from this form has written of s, in the buffer of the call back
pub record BackAgain (from : Form) (s buffer back : List ℕ) : Type 0 where
  pub answer : answering (other_form from) (written from s buffer) (length back) ≡ accepted (length s)
  pub same_bytes : buffer_after (other_form from) (written from s buffer) back ≡ s ++ drop (length s) back

-- an acceptance has something made, which has room
record MadeRoom (from : Form) (s : List ℕ) (room : ℕ) : Type 0 where
  result : List ℕ
  is : result_of from s ≡ made result
  fits : length result ≤ room

no_acceptance : (from : Form) → refusal_number from ≡ accepted_number → ⊥
no_acceptance Stored e = omega arith
no_acceptance Body e = omega arith

made_room : (from : Form) (s : List ℕ) (room : ℕ) → (answering from s room).number ≡ accepted_number → MadeRoom from s room
unfolding result_of if_read
made_room from s room e = go (nodes_in from s) refl
  where
    go : (o : Option (List Node)) → nodes_in from s ≡ o → MadeRoom from s room
    go none is = absurd (no_acceptance from (ap (λ (a : Answered). a.number) (sym (answer_refused from s is room)) ∙ e))
    go (some ns) is =
        let b = bytes_as (other_form from) ns in
        by_test (leb (length b) room)
        (λ t. record { result = b; is = rw is; fits = leb-true (length b) room t })
        (λ t. absurd (omega (arith, e, ap (λ (a : Answered). a.number) (answer_full from s is room (leb-false (length b) room t)))))

module _ (from : Form) (s buffer back : List ℕ) (accepts : (answering from s (length buffer)).number ≡ accepted_number) where
  written_is : written from s buffer ≡ (made_room from s (length buffer) accepts).result
  unfolding answering buffer_after
  written_is =
      let m = made_room from s (length buffer) accepts in
      let count = ap (λ (a : Answered). a.bytes) (results.answer_made m.is no_room_number (length buffer) m.fits) in
      ap₂ take count (results.buffer_made m.is buffer m.fits) ∙ take-append_seam m.result _

  pub calls_back : length s ≤ length back → BackAgain from s buffer back
  unfolding answering buffer_after
  calls_back room =
      let m = made_room from s (length buffer) accepts in
      let again : result_of (other_form from) (written from s buffer) ≡ made s =
      ap (result_of (other_form from)) written_is ∙ there_and_back from m.is
      in
      record {
        answer = results.answer_made again no_room_number (length back) room;
        same_bytes = results.buffer_made again back room;
      }
