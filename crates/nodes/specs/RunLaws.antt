-- Laws of runs of nodes.
--     run_none, run_node     the nodes that a run stands for, by how it was made
-- Assumes nothing.
use Rattle.std.specs.Prelude.{◌≡◌, [], ◌∷◌, ℤ}
use Rattle.std.proofs.Common.{sym, ◌∙◌}
use Rattle.nodes.specs.Nodes.{Node}
use Rattle.nodes.specs.Hull.{around, node_hull, hull}
use Rattle.nodes.specs.HullLaws.{hull_node}
use Rattle.nodes.specs.Values.{RunIs, EmptyRun, PointRun}
use Rattle.nodes.specs.declared.run.Run.{Run}

pub run_none : {r : Run} → EmptyRun r → RunIs [] r
unfolding hull
run_none e = record { count_is = e.count_is; hull_is = e.hull_is }

pub run_node : {x y : ℤ} {n : Node} {r : Run} → PointRun x y r → node_hull n ≡ around x x y y → RunIs (n ∷ []) r
run_node {n} p at = record { count_is = p.count_is; hull_is = p.hull_is ∙ sym (hull_node n ∙ at) }
