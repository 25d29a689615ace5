-- `put` meets its contract: what the crate `nodes` writes is a run of stores (`put_sets`).
-- Assumes nothing.
use mathlib.Core.Path.{◌∙◌}
use Rattle.dvi.specs.Stores.{put_sets, put_behind_sets}
use Rattle.dvi_nodes.proofs.stored.put.Goals as goal

pub returns-in-Glyph : goal.returns-in-Glyph
returns-in-Glyph c = rw c.in-Glyph.is (c.put_glyph.ensures ∙ put_sets c.args.out.now _ c.requires)

pub returns-in-Rule : goal.returns-in-Rule
returns-in-Rule c = rw c.in-Rule.is (c.put_rule.ensures ∙ put_behind_sets c.args.out.now _ c.requires)
