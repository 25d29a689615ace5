-- The writer and the reader undo each other, and the reader takes exactly what the writer writes.
--     there_and_back     what is made of some bytes is made into those bytes again: what is written reads back to the same node
--                        bytes (from `Stored`), and what reads is what the writer writes (from `Body`)
--     made_by            a result is made of the bytes of nodes that can be written, and of these alone (`made_is`)
--     only_nodes         of no other nodes: a form has different bytes for different nodes
-- Assumes nothing.
use Rattle.std.proofs.Math.Path.{◌≡◌, refl}
use Rattle.std.proofs.Common.{sym, ap, ◌∙◌}
use Rattle.std.specs.Prelude.{true, List, ℕ}
use Rattle.std.proofs.Math.Option.{some}
use Rattle.nodes.specs.Nodes.{Node}
use Rattle.dvi.specs.declared.forms.Form.{Form}
use Rattle.dvi.specs.declared.forms.Form.TheVariants.{Stored, Body}
use Rattle.dvi.specs.Profile.{all_writable}
use Rattle.dvi.specs.Forms.{other_form, bytes_as, nodes_in}
use Rattle.dvi.proofs.ReadingLaws.{nodes_back}
use Rattle.results.specs.Results.{made}
use Rattle.dvi.specs.Answers.{if_read, result_of}
use Rattle.dvi.specs.RoundTrip.{made_is}

module _ (from : Form) where
  pub made_by : (ns : List Node) → all_writable ns ≡ true → result_of from (bytes_as from ns) ≡ made (bytes_as (other_form from) ns)
  unfolding result_of if_read
  made_by ns t = rw (nodes_back from ns t)

  pub only_nodes : (ms ns : List Node) → all_writable ms ≡ true → all_writable ns ≡ true → bytes_as from ms ≡ bytes_as from ns → ms ≡ ns
  only_nodes ms ns t u e =
      let same : some ms ≡ some ns = sym (nodes_back from ms t) ∙ ap (nodes_in from) e ∙ nodes_back from ns u in
      cc

other_other : (f : Form) → other_form (other_form f) ≡ f
other_other Stored = refl
other_other Body = refl

pub there_and_back : {s b : List ℕ} (from : Form) → result_of from s ≡ made b → result_of (other_form from) b ≡ made s
there_and_back {s} {b} from e =
    let m = made_is from e in
    ap (result_of (other_form from)) (sym m.result)
    ∙ made_by (other_form from) m.nodes m.good
    ∙ ap made (rw (other_other from) m.source)
