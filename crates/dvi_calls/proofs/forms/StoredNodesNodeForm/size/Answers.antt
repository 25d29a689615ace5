-- Stored nodes have 18 bytes each. Assumes nothing.
use mathlib.Core.Path.{sym}
use Rattle.nodes.specs.NodeLaws.{length_node_bytes}
use Rattle.dvi_nodes.specs.Values.{node_as}
use Rattle.dvi_calls.proofs.forms.StoredNodesNodeForm.size.Goals as goal

pub returns : goal.returns
returns c = sym (length_node_bytes (node_as c.args._node))
