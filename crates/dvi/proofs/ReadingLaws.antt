-- What is read is what was written, in either form.
--     nodes_back        nodes that can be written are read back from their bytes
--     nodes_stopped     bytes that are nodes up to where none stands are not read
--     nodes_opened      what is read of bytes that open with some nodes opens with these
-- Assumes nothing.
use Rattle.std.specs.Prelude.{◌≡◌, true}
use Rattle.std.proofs.Math.Path.{refl, ap}
use Rattle.std.proofs.Common.{sym, ◌∙◌, arith}
use mathlib.Core.List.{List, [], ◌∷◌, ◌++◌, append_assoc, append-nil}
use Rattle.std.proofs.Math.Option.{Option, none, some}
use Prim.Native.Nat.{ℕ, suc, ◌+◌, ◌-◌, ◌≤◌, ◌<◌}
use Rattle.std.proofs.Math.Nat.{suc-add, zero-add}
use Rattle.std.proofs.Math.ListN.{length, length-append}
use Rattle.std.proofs.Math.Seq.{drop-append_seam}
use Rattle.laws.specs.Truths.{both_true}
use Rattle.nodes.specs.Nodes.{Node}
use Rattle.dvi.specs.declared.forms.Form.{Form}
use Rattle.dvi.specs.Profile.{writable, all_writable}
use Rattle.dvi.specs.Forms.{bytes_in, bytes_as, front_in, added, node_then, read_step, read_by, nodes_in}
use Rattle.dvi.proofs.FrontLaws.{size_least, front_own}
use Rattle.dvi.specs.ReadingLaws.{bytes_cons, bytes_nil, adds}

-- ---- nodes that are added to what is read behind them
all_added : List Node → Option (List Node) → Option (List Node)
all_added [] o = o
all_added (n ∷ ns) o = added n (all_added ns o)

added_some : (ms ns : List Node) → all_added ms (some ns) ≡ some (ms ++ ns)
unfolding all_added added
added_some [] ns = refl
added_some (m ∷ ms) ns = rw (added_some ms ns)

added_none : (ms : List Node) → all_added ms none ≡ none
unfolding all_added added
added_none [] = refl
added_none (m ∷ ms) = rw (added_none ms)

-- nodes that were added stand first
opened : (ms : List Node) {ns : List Node} (o : Option (List Node)) → all_added ms o ≡ some ns → (rest : List Node) × (ms ++ rest ≡ ns)
unfolding all_added
opened [] {ns} o e = (ns, refl)
opened (m ∷ ms) o e =
    let a = adds m (all_added ms o) e in
    let b = opened ms o a.reads in
    (b.0, ap (λ (l : List Node). m ∷ l) b.1 ∙ a.whole)

module _ (f : Form) where
  count_least : (ns : List Node) → length ns ≤ length (bytes_as f ns)
  count_least [] = omega arith
  count_least (n ∷ ns) = rw (bytes_cons f n ns) (omega (arith, length-append (bytes_in f n) (bytes_as f ns), size_least f n, count_least ns))

  -- ---- nodes at the front of some bytes
  -- where a node stands
  step_front : (R : List ℕ → Option (List Node)) (n : Node) (r : List ℕ) → writable n ≡ true →
      read_step f R (bytes_in f n ++ r) ≡ added n (R r)
  unfolding read_step node_then
  step_front R n r t = go (bytes_in f n ++ r) refl
    where
      go : (s : List ℕ) → s ≡ bytes_in f n ++ r → read_step f R s ≡ added n (R r)
      go [] e = absurd (omega (arith, size_least f n, ap length e, length-append (bytes_in f n) r))
      go (b ∷ s) e = rw (e, front_own f n r t, drop-append_seam (bytes_in f n) r)

  read_run : (k : ℕ) (ms : List Node) (r : List ℕ) → all_writable ms ≡ true →
      read_by f (length ms + k) (bytes_as f ms ++ r) ≡ all_added ms (read_by f k r)
  unfolding all_writable read_by all_added
  read_run k [] r t = rw (bytes_nil f, zero-add k)
  read_run k (m ∷ ms) r t =
      let good = both_true {p = writable m} t in
      rw (bytes_cons f m ms, append_assoc (bytes_in f m) (bytes_as f ms) r, suc-add (length ms) k)
      (step_front (read_by f (length ms + k)) m (bytes_as f ms ++ r) good.0 ∙ ap (added m) (read_run k ms r good.1))

  -- how often `nodes_in` may read behind the nodes ms
  left : (ms : List Node) (r : List ℕ) → (j : ℕ) × (suc (length (bytes_as f ms ++ r)) ≡ length ms + suc j)
  left ms r =
      (length (bytes_as f ms ++ r) - length ms, omega (arith, length-append (bytes_as f ms) r, count_least ms))

  nodes_run : (ms : List Node) (r : List ℕ) → all_writable ms ≡ true →
      nodes_in f (bytes_as f ms ++ r) ≡ all_added ms (read_step f (read_by f (left ms r).0) r)
  unfolding nodes_in read_by
  nodes_run ms r t =
      ap (λ (k : ℕ). read_by f k (bytes_as f ms ++ r)) (left ms r).1 ∙ read_run (suc (left ms r).0) ms r t

  pub nodes_back : (ms : List Node) → all_writable ms ≡ true → nodes_in f (bytes_as f ms) ≡ some ms
  unfolding read_step
  nodes_back ms t =
      ap (nodes_in f) (sym (append-nil (bytes_as f ms))) ∙ nodes_run ms [] t ∙ added_some ms [] ∙ ap some (append-nil ms)

  -- behind the nodes ms no node stands
  pub nodes_stopped : (ms : List Node) (r : List ℕ) → all_writable ms ≡ true → 0 < length r → front_in f r ≡ none →
      nodes_in f (bytes_as f ms ++ r) ≡ none
  unfolding read_step node_then
  nodes_stopped ms [] t l e = absurd (omega arith)
  nodes_stopped ms (b ∷ r) t l e = nodes_run ms (b ∷ r) t ∙ rw e (added_none ms)

  pub nodes_opened : (ms : List Node) (r : List ℕ) {ns : List Node} → all_writable ms ≡ true → nodes_in f (bytes_as f ms ++ r) ≡ some ns →
      (rest : List Node) × (ms ++ rest ≡ ns)
  nodes_opened ms r t e = opened ms _ (sym (nodes_run ms r t) ∙ e)
