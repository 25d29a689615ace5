-- A result is made of the bytes of nodes that can be written (`made_is`). That the writer and the reader undo each other is in
-- proofs/RoundTrip.antt.
-- Assumes nothing.
use Rattle.std.proofs.Math.Path.{◌≡◌, refl}
use Rattle.std.proofs.Common.{arith}
use Rattle.std.specs.Prelude.{true, List, ℕ}
use Rattle.std.proofs.Math.Option.{Option, none, some}
use Rattle.nodes.specs.Nodes.{Node}
use Rattle.dvi.specs.declared.forms.Form.{Form}
use Rattle.dvi.specs.Profile.{all_writable}
use Rattle.dvi.specs.Forms.{other_form, bytes_as, nodes_in}
use Rattle.dvi.specs.ReadingLaws.{nodes_exact}
use Rattle.results.specs.Results.{made}
use Rattle.dvi.specs.Answers.{if_read, result_of}

module _ (from : Form) where
  pub record Makes (s b : List ℕ) : Type 0 where
    pub nodes : List Node
    pub good : all_writable nodes ≡ true
    pub source : bytes_as from nodes ≡ s
    pub result : bytes_as (other_form from) nodes ≡ b

  pub made_is : {s b : List ℕ} → result_of from s ≡ made b → Makes s b
  unfolding result_of if_read
  made_is {s} {b} e = go (nodes_in from s) refl e
    where
      go : (o : Option (List Node)) → nodes_in from s ≡ o → if_read from o ≡ made b → Makes s b
      go none is e = let no : ◌≡◌ {A = ℕ} 0 1 = cc in absurd (omega arith)
      go (some ns) is e =
          let exact = nodes_exact from s ns is in
          record { nodes = ns; good = exact.good; source = exact.bytes; result = cc }
