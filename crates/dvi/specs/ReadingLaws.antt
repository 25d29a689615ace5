-- What is read can be written, in either form.
--     bytes_nil, bytes_cons, bytes_append, bytes_one     the bytes of nodes, one behind the other
--     nodes_exact       what is read can be written, and its bytes are those that were read
-- That what was written is read is in proofs/ReadingLaws.antt.
-- Assumes nothing.
use Rattle.std.specs.Prelude.{◌≡◌, true}
use Rattle.std.proofs.Math.Path.{refl, ap}
use Rattle.std.proofs.Common.{sym, ◌∙◌}
use mathlib.Core.List.{List, [], ◌∷◌, ◌++◌, append_assoc, append-nil}
use Rattle.std.proofs.Math.Option.{Option, none, some}
use Prim.Native.Nat.{ℕ, zero, suc}
use Rattle.std.proofs.Math.ListN.{length}
use Rattle.laws.specs.Options.{none_some}
use Rattle.laws.specs.Truths.{true_both}
use Rattle.nodes.specs.Nodes.{Node, bytes_of}
use Rattle.dvi.specs.declared.forms.Form.{Form}
use Rattle.dvi.specs.declared.forms.Form.TheVariants.{Stored, Body}
use Rattle.dvi.specs.Body.{body_of}
use Rattle.dvi.specs.Profile.{all_writable}
use Rattle.dvi.specs.Forms.{bytes_in, bytes_as, front_in, added, node_then, read_step, read_by, nodes_in}
use Rattle.dvi.specs.FrontLaws.{front_is}

-- ---- the bytes of nodes

pub bytes_cons : (f : Form) (n : Node) (ns : List Node) → bytes_as f (n ∷ ns) ≡ bytes_in f n ++ bytes_as f ns
unfolding bytes_of body_of
bytes_cons Stored n ns = refl
bytes_cons Body n ns = refl

pub bytes_nil : (f : Form) → bytes_as f [] ≡ []
unfolding bytes_of body_of
bytes_nil Stored = refl
bytes_nil Body = refl

-- what a node was added to
pub record Adds (n : Node) (o : Option (List Node)) (ns : List Node) : Type 0 where
  pub rest : List Node
  pub reads : o ≡ some rest
  pub whole : n ∷ rest ≡ ns

pub adds : (n : Node) (o : Option (List Node)) {ns : List Node} → added n o ≡ some ns → Adds n o ns
unfolding added
adds n none e = absurd (none_some e)
adds n (some ms) e = record { rest = ms; reads = refl; whole = cc }

module _ (f : Form) where
  pub bytes_append : (ms ns : List Node) → bytes_as f (ms ++ ns) ≡ bytes_as f ms ++ bytes_as f ns
  bytes_append [] ns = rw (bytes_nil f)
  bytes_append (m ∷ ms) ns =
      rw (bytes_cons f m (ms ++ ns), bytes_cons f m ms, bytes_append ms ns) (sym (append_assoc (bytes_in f m) (bytes_as f ms) (bytes_as f ns)))

  pub bytes_one : (ms : List Node) (n : Node) → bytes_as f (ms ++ (n ∷ [])) ≡ bytes_as f ms ++ bytes_in f n
  bytes_one ms n =
      bytes_append ms (n ∷ []) ∙ ap (λ (b : List ℕ). bytes_as f ms ++ b) (bytes_cons f n [] ∙ rw (bytes_nil f) (append-nil (bytes_in f n)))

  -- ---- what is read

  pub record Exact (s : List ℕ) (ns : List Node) : Type 0 where
    pub good : all_writable ns ≡ true
    pub bytes : bytes_as f ns ≡ s

  exact_nil : {ns : List Node} → some [] ≡ some ns → Exact [] ns
  unfolding all_writable
  exact_nil {ns} e = let same : [] ≡ ns = cc in rw (← same) (record { good = refl; bytes = bytes_nil f })

  -- by what stands at the front, where R reads exactly
  exact_front : (R : List ℕ → Option (List Node)) (s : List ℕ) {ns : List Node} (o : Option Node) →
      ((r : List ℕ) (ms : List Node) → R r ≡ some ms → Exact r ms) → front_in f s ≡ o → node_then f R s o ≡ some ns → Exact s ns
  unfolding node_then all_writable
  exact_front R s none rest is e = absurd (none_some e)
  exact_front R s (some n) rest is e =
      let front = front_is f s n is in
      let a = adds n (R _) e in
      let behind = rest _ a.rest a.reads in
      rw (← a.whole)
      (record { good = true_both front.good behind.good; bytes = bytes_cons f n a.rest ∙ rw behind.bytes (sym front.bytes) })

  exact_by : (k : ℕ) (s : List ℕ) (ns : List Node) → read_by f k s ≡ some ns → Exact s ns
  unfolding read_by read_step
  exact_by zero s ns e = absurd (none_some e)
  exact_by (suc k) [] ns e = exact_nil e
  exact_by (suc k) (b ∷ s) ns e = exact_front (read_by f k) (b ∷ s) (front_in f (b ∷ s)) (λ r ms. exact_by k r ms) refl e

  pub nodes_exact : (s : List ℕ) (ns : List Node) → nodes_in f s ≡ some ns → Exact s ns
  unfolding nodes_in
  nodes_exact s ns e = exact_by (suc (length s)) s ns e
