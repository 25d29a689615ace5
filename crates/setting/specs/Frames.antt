-- A frame is what stands around a run of nodes: nodes before it, a distance, and nodes after it. Frames nest, and
-- `framed_nest` is the one law by which a run keeps together at any depth.
--     framed f ns    the nodes before, the run ns moved by the distance, the nodes after
--     nest o f       the frame f within the frame o: f's own nodes are moved by o's distance, and the distances add up
--     first_frame, second_frame, third_frame     what stands in an item around each of its fields
-- Assumes nothing.
use Rattle.std.specs.Prelude.{◌≡◌, pos, ◌+ℤ◌}
use Rattle.std.proofs.Common.{◌∙◌}
use mathlib.Core.List.{List, [], ◌++◌, append-nil, append_assoc}
use Rattle.boxes.specs.Boxes.{Offset, origin, Arranged}
use Rattle.nodes.specs.Nodes.{Node, moved}
use Rattle.nodes.specs.NodeLaws.{moved_append, moved_twice, moved_nowhere}
use Rattle.setting.specs.Setting.{FieldBox, moved_by, own_nodes, item_nodes}

pub record Frame : Type 0 where
  pub before : List Node
  pub distance : Offset
  pub after : List Node

abbrev pub framed : Frame → List Node → List Node
framed f ns = f.before ++ (moved_by f.distance ns ++ f.after)

abbrev pub bare : Frame
bare = record { before = []; distance = origin; after = [] }

-- one distance, and then another
abbrev pub further : Offset → Offset → Offset
further p q = record { across = q.across +ℤ p.across; up = q.up +ℤ p.up }

abbrev pub nest : Frame → Frame → Frame
nest o f =
    record {
      before = o.before ++ moved_by o.distance f.before;
      distance = further o.distance f.distance;
      after = moved_by o.distance f.after ++ o.after;
    }

pub framed_bare : (ns : List Node) → framed bare ns ≡ ns
framed_bare ns = append-nil (moved (pos 0) (pos 0) ns) ∙ moved_nowhere ns

pub framed_nest : (o f : Frame) (ns : List Node) → framed o (framed f ns) ≡ framed (nest o f) ns
framed_nest o f ns = simp (moved_append, moved_twice, append_assoc)

-- ---- the fields of an item that is arranged so

module _ (a : Arranged) where
  abbrev pub first_frame : FieldBox → FieldBox → Frame
  first_frame y z =
      record {
        before = own_nodes a.own.before;
        distance = a.first;
        after = own_nodes a.own.behind ++ moved_by a.second y.nodes ++ moved_by a.third z.nodes;
      }

  abbrev pub second_frame : FieldBox → FieldBox → Frame
  second_frame x z =
      record {
        before = own_nodes a.own.before ++ moved_by a.first x.nodes ++ own_nodes a.own.behind;
        distance = a.second;
        after = moved_by a.third z.nodes;
      }

  abbrev pub third_frame : FieldBox → FieldBox → Frame
  third_frame x y =
      record {
        before =
            own_nodes a.own.before
            ++ moved_by a.first x.nodes
            ++ own_nodes a.own.behind
            ++ moved_by a.second y.nodes;
        distance = a.third;
        after = [];
      }

  module _ (x y z : FieldBox) where
    pub first_framed : item_nodes a x y z ≡ framed (first_frame y z) x.nodes
    unfolding item_nodes
    first_framed = simp append_assoc

    pub second_framed : item_nodes a x y z ≡ framed (second_frame x z) y.nodes
    unfolding item_nodes
    second_framed = simp append_assoc

    pub third_framed : item_nodes a x y z ≡ framed (third_frame x y) z.nodes
    unfolding item_nodes
    third_framed = simp (append_assoc, append-nil)
