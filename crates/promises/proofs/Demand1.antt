-- Demand 1: what setting leaves of the node buffer, for any bytes as style, table, client's table and formula, and a buffer of any length.
--     RefusedWhole     a refusal has sizes 0 and count 0, and the buffer is the one given
--     AcceptedFront    an acceptance has place 0; the buffer keeps its length, and every byte behind the nodes that are counted
--     demand_1         every answer is one of the two, by its number
-- A list between any two sides is answered so too (`demand_1_between`).
-- Assumes nothing.
use Rattle.std.specs.Prelude.{◌≡◌, refl, Bool, true, false, List, ◌++◌, ℕ, ◌*◌, length, drop}
use Rattle.std.proofs.Common.{◌∙◌, arith, length-append, length-drop, drop_at, leb-true}
use Rattle.boxes.specs.Boxes.{zero_size}
use Rattle.nodes.specs.Nodes.{bytes_in_node, bytes_of}
use Rattle.nodes.specs.NodeLaws.{length_bytes}
use Rattle.setting.specs.Setting.{Box, Sides, no_sides}
use Rattle.answers.specs.Lent.{Lent}
use Rattle.answers.specs.Answers.{Result, boxed, refused, result_between, Answered, accepted_number, no_room_number, accepted, refusal, has_room, set_by, setting_between, setting, buffer_by, buffer_between, buffer_after}
use Rattle.promises.proofs.Agreement.{RefusedBefore, result_before_lem}

pub record RefusedWhole (a : Answered) (before after : List ℕ) : Type 0 where
  pub no_size : a.size ≡ zero_size
  pub no_count : a.count ≡ 0
  pub unchanged : after ≡ before

pub record AcceptedFront (a : Answered) (before after : List ℕ) : Type 0 where
  pub no_place : a.place ≡ 0
  pub same_length : length after ≡ length before
  pub behind_kept : drop (bytes_in_node * a.count) after ≡ drop (bytes_in_node * a.count) before

pub record Leaves (a : Answered) (before after : List ℕ) : Type 0 where
  pub refusal : (a.number ≡ accepted_number → ⊥) → RefusedWhole a before after
  pub acceptance : a.number ≡ accepted_number → AcceptedFront a before after

-- a box, by whether it has room
boxed_leaves : (b : Box) (before : List ℕ) (t : Bool) → has_room (length before) b ≡ t →
    Leaves (elim t [ true ↦ accepted b | false ↦ refusal no_room_number 0 ]) before
    (elim t [ true ↦ bytes_of b.nodes ++ drop (bytes_in_node * length b.nodes) before | false ↦ before ])
unfolding has_room
boxed_leaves b before true e =
    let bytes = bytes_in_node * length b.nodes in
    let room = leb-true bytes (length before) e in
    let nodes = length_bytes b.nodes in
    record {
      refusal = λ n. absurd (n refl);
      acceptance = λ _. record {
        no_place = refl;
        same_length = length-append (bytes_of b.nodes) (drop bytes before) ∙ omega (arith, nodes, room, length-drop bytes before);
        behind_kept = drop_at (bytes_of b.nodes) (drop bytes before) bytes nodes;
      };
    }
boxed_leaves b before false e =
    record {
      refusal = λ n. record { no_size = refl; no_count = refl; unchanged = refl };
      acceptance = λ h. absurd (omega arith);
    }

result_leaves : (r : Result) (before : List ℕ) → RefusedBefore r → Leaves (set_by (length before) r) before (buffer_by before r)
unfolding set_by buffer_by
result_leaves (boxed b) before h = boxed_leaves b before (has_room (length before) b) refl
result_leaves (refused number place) before h =
    record {
      refusal = λ n. record { no_size = refl; no_count = refl; unchanged = refl };
      acceptance = λ e. absurd (h.0 e);
    }

pub demand_1_between : (sides : Sides) (style : ℕ) (table client : List ℕ) (lent : Lent) (formula buffer : List ℕ) →
    Leaves (setting_between sides style table client lent formula (length buffer)) buffer (buffer_between sides style table client lent formula buffer)
unfolding setting_between buffer_between
demand_1_between sides style table client lent formula buffer =
    result_leaves (result_between sides style table client lent formula) buffer (result_before_lem sides style table client lent formula)

pub demand_1 : (style : ℕ) (table client : List ℕ) (lent : Lent) (formula buffer : List ℕ) →
    Leaves (setting style table client lent formula (length buffer)) buffer (buffer_after style table client lent formula buffer)
demand_1 = demand_1_between no_sides
