-- The walk over the nodes of some bytes, from one form to the other.
--     Passed             the nodes that were passed, with its start, its turn and its end
--     passed_stopped     where no node stands the bytes are not nodes
--     passed_fits        what was passed is a part of all the nodes
--     Copied             the same for nodes that were written, with its start, its turn and its end
-- Assumes nothing.
use mathlib.Core.Path.{◌≡◌, refl, sym, ap, ◌∙◌}
use mathlib.Core.Bool.{true}
use mathlib.Core.List.{List, [], ◌∷◌, ◌++◌, append_assoc, append-nil}
use mathlib.Core.Option.{none, some}
use Prim.Native.Nat.{ℕ, ◌+◌, ◌-◌, ◌*◌, ◌≤◌, ◌<◌}
use native.Mathlib.Omega.{arith}
use borrow.Rule.Slice.PartMut.{put_mid}
use lib.ListN.{length, take, drop, length-append, length-drop}
use lib.Seq.{drop-drop, take_at, drop_at, sets, sets-eq}
use Rattle.laws.specs.Options.{none_some}
use Rattle.laws.specs.Truths.{true_both}
use Rattle.std.proofs.lemmas.List.{nil_from_length}
use Rattle.nodes.specs.Nodes.{Node}
use Rattle.nodes.specs.Lent.{rest_lent, rest_back}
use Rattle.dvi.specs.declared.forms.Form.{Form}
use Rattle.dvi.specs.Profile.{writable, all_writable}
use Rattle.dvi.specs.ProfileLaws.{all_append}
use Rattle.dvi.specs.Forms.{other_form, bytes_in, bytes_as, front_in, nodes_in}
use Rattle.dvi.specs.FrontLaws.{front_is}
use Rattle.dvi.proofs.FrontLaws.{size_least, size_most}
use Rattle.dvi.specs.ReadingLaws.{bytes_nil, bytes_one, bytes_append}
use Rattle.dvi.proofs.ReadingLaws.{nodes_back, nodes_stopped, nodes_opened}
use Rattle.dvi.specs.Answers.{buffer_after}
use Rattle.dvi.specs.AnswerLaws.{buffer_made}
use Rattle.dvi_calls.specs.Values.{HasRoom}

-- ---- nodes that were passed, and the rest

pub record Passed (f g : Form) (s rest : List ℕ) (size : ℕ) : Type 0 where
  pub nodes : List Node
  pub good : all_writable nodes ≡ true
  pub bytes : s ≡ bytes_as f nodes ++ rest
  pub size_is : size ≡ length (bytes_as g nodes)
  pub small : size + 2 * length rest ≤ 2 * length s

pub passed_none : (f g : Form) (s : List ℕ) → Passed f g s s 0
unfolding all_writable
passed_none f g s = record { nodes = []; good = refl; bytes = rw (bytes_nil f); size_is = rw (bytes_nil g); small = omega arith }

-- a node at the front is no longer than the rest
pub within_rest : (f : Form) (rest : List ℕ) (n : Node) → front_in f rest ≡ some n → length (bytes_in f n) ≤ length rest
within_rest f rest n stands =
    let own = bytes_in f n in
    omega (arith, ap length (front_is f rest n stands).bytes, length-append own (drop (length own) rest))

-- and behind it less is left
pub less_left : (f : Form) (rest : List ℕ) (n : Node) {i : ℕ} → front_in f rest ≡ some n → i ≡ length (bytes_in f n) →
    length (take (length rest - i) (drop i rest)) < length rest
less_left f rest n {i} stands i-is =
    rw (rest_lent i rest) (omega (arith, length-drop i rest, within_rest f rest n stands, size_least f n))

module _ {f g : Form} {s rest : List ℕ} {size : ℕ} (p : Passed f g s rest size) where
  pub passed_next : (n : Node) {i j : ℕ} {r : List ℕ} → front_in f rest ≡ some n → i ≡ length (bytes_in f n) → j ≡ length (bytes_in g n) →
      r ≡ drop i rest → Passed f g s r (size + j)
  unfolding all_writable
  passed_next n {i} {j} {r} stands i-is j-is r-is =
      let front = front_is f rest n stands in
      let own = bytes_in f n in
      let behind : rest ≡ own ++ r = front.bytes ∙ rw (← i-is, r-is) in
      record {
        nodes = p.nodes ++ (n ∷ []);
        good = all_append p.nodes (n ∷ []) p.good (true_both front.good refl);
        bytes = p.bytes ∙ ap (λ (b : List ℕ). bytes_as f p.nodes ++ b) behind ∙ sym (rw (bytes_one f p.nodes n) (append_assoc (bytes_as f p.nodes) own r));
        size_is = rw (bytes_one g p.nodes n) (omega (arith, length-append (bytes_as g p.nodes) (bytes_in g n), p.size_is));
        small = omega (arith, size_most f g n, p.small, ap length behind, length-append own r);
      }

  pub passed_all : length rest ≡ 0 → nodes_in f s ≡ some p.nodes
  passed_all is_empty = let none_left : rest ≡ [] = nil_from_length rest is_empty in ap (nodes_in f) (p.bytes ∙ rw none_left (append-nil (bytes_as f p.nodes))) ∙ nodes_back f p.nodes p.good

  pub passed_stopped : 0 < length rest → front_in f rest ≡ none → nodes_in f s ≡ none
  passed_stopped l e = ap (nodes_in f) p.bytes ∙ nodes_stopped f p.nodes rest p.good l e

  -- what was passed is no longer than all of it
  pub passed_fits : {ns : List Node} → nodes_in f s ≡ some ns → size ≤ length (bytes_as g ns)
  passed_fits {ns} e =
      let o = nodes_opened f p.nodes rest p.good (ap (nodes_in f) (sym p.bytes) ∙ e) in
      rw (← o.1, bytes_append g p.nodes o.0) (omega (arith, p.size_is, length-append (bytes_as g p.nodes) (bytes_as g o.0)))

-- so it has room where all of it has
pub passed_room : {f g : Form} {s out rest : List ℕ} {size : ℕ} → g ≡ other_form f → HasRoom f s out → Passed f g s rest size → size ≤ length out
passed_room {f} to given p =
    let all = given.sized in
    let fits = rw to at (passed_fits p all.reads) in
    omega (arith, fits, all.size_is, given.room)

-- ---- nodes that were written

pub record Copied (f g : Form) (s out₀ out rest : List ℕ) (end : ℕ) : Type 0 where
  pub passed : Passed f g s rest end
  pub same : length out ≡ length out₀
  pub written : out ≡ bytes_as g passed.nodes ++ drop end out₀

pub copied_none : (f g : Form) (s out : List ℕ) → Copied f g s out out s 0
unfolding passed_none
copied_none f g s out = record { passed = passed_none f g s; same = refl; written = rw (bytes_nil g) }

module _ {f g : Form} {s out₀ out rest : List ℕ} {end : ℕ} (p : Copied f g s out₀ out rest end) where
  -- where all the nodes have room
  pub copied_room : g ≡ other_form f → HasRoom f s out₀ → end ≤ length out
  copied_room to given = omega (arith, passed_room to given p.passed, p.same)

  pub copied_asks : (n : Node) → g ≡ other_form f → HasRoom f s out₀ → front_in f rest ≡ some n →
      (writable n ≡ true) × (length (bytes_in g n) ≤ length (take (length out - end) (drop end out)))
  copied_asks n to given stands =
      let fits = passed_room to given (passed_next p.passed n stands refl refl refl) in
      ((front_is f rest n stands).good, rw (rest_lent end out) (omega (arith, length-drop end out, p.same)))

  -- the node's bytes are stored in the part that is lent from the end on
  pub copied_next : (n : Node) {i j : ℕ} {r : List ℕ} → g ≡ other_form f → HasRoom f s out₀ → front_in f rest ≡ some n →
      i ≡ length (bytes_in f n) → j ≡ length (bytes_in g n) → r ≡ sets (take (length out - end) (drop end out)) 0 (bytes_in g n) →
      Copied f g s out₀ (put_mid end (length out - end) out r) (take (length rest - i) (drop i rest)) (end + j)
  unfolding passed_next
  copied_next n {i} {j} {r} to given stands i-is j-is is =
      let next = passed_next p.passed n stands i-is j-is (rest_lent i rest) in
      let room = passed_room to given next in
      let done = bytes_as g p.passed.nodes in
      let own = bytes_in g n in
      let size : length done ≡ end = sym p.passed.size_is in
      let front : take end out ≡ done = rw p.written (take_at done (drop end out₀) end size) in
      let behind : drop end out ≡ drop end out₀ = rw p.written (drop_at done (drop end out₀) end size) in
      let length_own : 0 + length own ≡ j = omega arith in
      let fits : 0 + length own ≤ length (drop end out₀) = omega (arith, length-drop end out₀) in
      let stored : r ≡ own ++ drop (end + j) out₀ =
      is ∙ rw (rest_lent end out, behind) (sets-eq own (drop end out₀) 0 fits ∙ rw (length_own, drop-drop j end out₀)) in
      let whole : put_mid end (length out - end) out r ≡ done ++ (own ++ drop (end + j) out₀) = rest_back end out r ∙ rw (front, stored) in
      record {
        passed = next;
        same =
            ap length whole
            ∙ omega (arith, length-append done (own ++ drop (end + j) out₀), length-append own (drop (end + j) out₀), length-drop (end + j) out₀);
        written = whole ∙ sym (rw (bytes_one g p.passed.nodes n) (append_assoc done own (drop (end + j) out₀)));
      }

  pub copied_all : g ≡ other_form f → HasRoom f s out₀ → length rest ≡ 0 → out ≡ buffer_after f s out₀
  copied_all to given is_empty =
      let reads = passed_all p.passed is_empty in
      let size : end ≡ length (bytes_as (other_form f) p.passed.nodes) = rw to at p.passed.size_is in
      let room = passed_room to given p.passed in
      p.written ∙ rw (to, size) (sym (buffer_made f s reads out₀ (omega arith)))

  -- all the bytes are nodes
  pub never_stopped : HasRoom f s out₀ → 0 < length rest → front_in f rest ≡ none → ⊥
  never_stopped given l e = none_some (sym (passed_stopped p.passed l e) ∙ given.sized.reads)
