-- Stored nodes have 18 bytes each. Assumes nothing.
use native.Mathlib.Omega.{arith}
use Rattle.nodes.specs.NodeLaws.{length_node_bytes}
use Rattle.dvi_nodes.specs.Values.{node_as}
use Rattle.dvi_calls.proofs.forms.StoredNodesNodeForm.put.Goals as goal

pub put-requires : goal.put-requires
put-requires c = omega (arith, c.requires.1, length_node_bytes (node_as c.args.node))
