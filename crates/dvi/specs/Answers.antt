-- What the writer and the reader answer, for any bytes and any room, and the buffer after them (request 14). The writer converts
-- nodes from the form `Stored`, the reader from `Body`.
-- Assumes nothing.
use Rattle.std.specs.Prelude.{List, ℕ}
use Rattle.std.proofs.Math.Option.{Option, none, some}
use Rattle.nodes.specs.Nodes.{Node}
use Rattle.results.specs.Results.{Result, made, refused, Answered, answer_by, buffer_by}
use Rattle.dvi.specs.declared.forms.Form.{Form}
use Rattle.dvi.specs.declared.forms.Form.TheVariants.{Stored, Body}
use Rattle.dvi.specs.Forms.{other_form, bytes_as, nodes_in}

-- nodes that are not of the form, or whose lengths pass the bound; a body outside the profile
abbrev pub refusal_number : Form → ℕ
refusal_number Stored = 16
refusal_number Body = 17

abbrev pub no_room_number : ℕ
no_room_number = 18

-- 16 or 17
unfoldable pub if_read : Form → Option (List Node) → Result
if_read from none = refused (refusal_number from) 0
if_read from (some ns) = made (bytes_as (other_form from) ns)

unfoldable pub result_of : Form → List ℕ → Result
result_of from s = if_read from (nodes_in from s)

unfoldable pub answering : Form → List ℕ → ℕ → Answered
answering from s room = answer_by no_room_number room (result_of from s)

unfoldable pub buffer_after : Form → List ℕ → List ℕ → List ℕ
buffer_after from s buffer = buffer_by buffer (result_of from s)
