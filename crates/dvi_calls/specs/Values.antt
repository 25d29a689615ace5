-- What the code's values stand for, and what its functions promise.
--     number_as, answered_as     the paper's number of each refusal; the number, place and size of each answer
--     MeasureDone          the size of the result, or that there is none
--     HasRoom              the result has room in a buffer
-- Assumes nothing.
use Rattle.std.specs.Prelude.{◌≡◌, List, ℕ, ◌≤◌, length, Option, Some, None, Result, Ok, Err}
use Rattle.std.proofs.Math.Option.{none, some}
use Rattle.nodes.specs.Nodes as nodes
use Rattle.dvi_calls.specs.declared.Refusal.{Refusal}
use Rattle.dvi_calls.specs.declared.Refusal.TheVariants.{BadNodes, OutsideProfile, NoRoom}
use Rattle.dvi.specs.declared.forms.Form.{Form}
use Rattle.dvi.specs.declared.forms.Form.TheVariants.{Stored, Body}
use Rattle.dvi.specs.Forms.{other_form, bytes_as, nodes_in}
use Rattle.results.specs.Results.{Answered, accepted, refusal}
use Rattle.dvi.specs.Answers.{refusal_number, no_room_number}

abbrev pub number_as : Refusal → ℕ
number_as BadNodes = refusal_number Stored
number_as OutsideProfile = refusal_number Body
number_as NoRoom = no_room_number

abbrev pub answered_as : Result ℕ Refusal → Answered
answered_as (Ok n) = accepted n
answered_as (Err r) = refusal (number_as r) 0

-- n bytes in the other form
pub record Sized (from : Form) (s : List ℕ) (n : ℕ) : Type 0 where
  pub nodes : List nodes.Node
  pub reads : nodes_in from s ≡ some nodes
  pub size_is : n ≡ length (bytes_as (other_form from) nodes)

abbrev pub MeasureDone : Form → List ℕ → Option ℕ → Type 0
MeasureDone from s (Some n) = Sized from s n
MeasureDone from s None = nodes_in from s ≡ none

pub record HasRoom (from : Form) (s out : List ℕ) : Type 0 where
  pub size : ℕ
  pub sized : Sized from s size
  pub room : size ≤ length out
