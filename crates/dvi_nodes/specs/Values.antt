-- What the code's values stand for, and what its tests promise.
--     node_as, front_as      a node, and what stands at the front of some bytes
--     Stands               a test of whether a node's bytes lead, where the node can be written
-- Assumes nothing.
use Rattle.std.specs.Prelude.{◌≡◌, Bool, true, List, ℕ, Option, Some, None}
use Rattle.std.proofs.Math.Option.{none, some}
use Rattle.std.proofs.Math.Option.{Option as OptionOf}
use Rattle.nodes.specs.Nodes as nodes
use Rattle.dvi.specs.declared.forms.Form.{Form}
use Rattle.dvi.specs.Profile.{writable}
use Rattle.dvi.specs.Forms.{bytes_in, leads}
use Rattle.dvi_nodes.specs.declared.Node.{Node}
use Rattle.dvi_nodes.specs.declared.Node.TheVariants.{Glyph, Rule}

abbrev pub node_as : Node → nodes.Node
node_as (Glyph g) = nodes.glyph g.x.0 g.y.0 g.size g.family g.code
node_as (Rule r) = nodes.rule r.x.0 r.y.0 r.width.0 r.thickness.0

abbrev pub front_as : Option Node → OptionOf nodes.Node
front_as (Some n) = some (node_as n)
front_as None = none

-- of a rule that is stored with a negative width nothing is said
abbrev pub Stands : Form → nodes.Node → List ℕ → Bool → Type 0
Stands f n s t = writable n ≡ true → t ≡ leads (bytes_in f n) s
