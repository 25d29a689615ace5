-- `nucleus_of` meets its contract: the arms of a root and of a fence, whose parts are clauses of the definition.
-- Assumes nothing.
use mathlib.Core.Path.{ap, ap₂, ◌∙◌}
use Rattle.delimiters.specs.Values.{signs_as}
use Rattle.roots.specs.Roots.{Radical, root}
use Rattle.fences.specs.Fences.{Fence}
use Rattle.arrange_rules.specs.Arrange.{root_nucleus, fence_nucleus, nucleus_of}
use Rattle.arrange.proofs.nucleus_of.Goals as goal

pub returns-in-Root : goal.returns-in-Root
unfolding nucleus_of
returns-in-Root c =
    let found = signs_as c.args.signs in
    let placed = c.root.ensures.0 ∙ ap₂ (root _ _) c.size_of-in-Root.ensures.0 c.sign_size.ensures.0 in (
      rw c.in-Root.is (c.root_nucleus.ensures.0 ∙ ap (λ (r : Radical). root_nucleus r found) placed),
      c.root_nucleus.ensures.1,
    )

pub returns-in-Fence : goal.returns-in-Fence
unfolding nucleus_of
returns-in-Fence c =
    let found = signs_as c.args.signs in
    let placed = rw (c.sign_size-right.ensures.0, c.size_of-in-Fence.ensures.0, c.sign_size-left.ensures.0) at c.fence_of.ensures.0 in (
      rw c.in-Fence.is (c.fence_nucleus.ensures.0 ∙ ap (λ (f : Fence). fence_nucleus f found) placed),
      c.fence_nucleus.ensures.1,
    )
