-- What `search_sizes` has yet to look at is the size at hand and those up from it.
-- Assumes nothing.
use Rattle.std.proofs.Common.{◌≡◌}
use Rattle.font.specs.Font.{font_in}
use Rattle.delimiters.specs.Delimiters.{in_sizes}
use Rattle.delimiters.specs.Looking.{looked_at}
use Rattle.delimiters.specs.Values.{search_as}
use Rattle.delimiters.proofs.search_sizes.Given as goal

abbrev pub invariant-loop-at : goal.invariant-loop-at
invariant-loop-at l =
    looked_at l.needed.0 (search_as l.seen) (in_sizes (font_in l.font) l.family l.code l.at)
    ≡ looked_at l.needed.0 (search_as l.fn.far) (in_sizes (font_in l.font) l.family l.code l.size)
