-- What the values of the code stand for in the definitions: counts of own nodes.
-- Assumes nothing.
use Rattle.std.specs.Prelude.{◌≡◌, ◌+◌, ◌≤◌}
use Rattle.formula.specs.declared.Kind.{Kind}
use Rattle.boxes.specs.declared.styles.Style.{Style}
use Rattle.boxes.specs.Parameters.{Parameters}
use Rattle.delimiters.specs.declared.HasSigns.{HasSigns}
use Rattle.arrange.specs.declared.OwnCounts.{OwnCounts}
use Rattle.arrange_rules.specs.Arrange.{OwnCounts as OwnCountsOf, own_counts}

-- counts of own nodes, two at most
pub record CountsAre (n : OwnCountsOf) (r : OwnCounts) : Type 0 where
  pub before_is : r.before ≡ n.before
  pub behind_is : r.behind ≡ n.behind
  pub few : r.before + r.behind ≤ 2

-- those of an item
abbrev pub OwnCountsAre : Parameters → Style → Kind → HasSigns → OwnCounts → Type 0
OwnCountsAre p s kind found r = CountsAre (own_counts p s kind found) r
