-- The search as it goes, symbol by symbol.
--     Looked        how far it has come
--     look, looked_at    after one symbol more, after some more
--     outcome       what it has found
-- Assumes nothing.
use Rattle.std.specs.Prelude.{true, false, List, [], ◌∷◌, ℤ}
use Rattle.std.proofs.Math.Option.{Option, none, some}
use Rattle.std.specs.Int.Signed.{lt_z}
use Rattle.delimiters.specs.Delimiters.{Sign, extent, taller}

-- no symbol yet; none that suffices, and the tallest so far; one that suffices, which ends the search
pub data Looked : Type 0 where
  nothing : Looked
  short : Sign → Looked
  enough : Sign → Looked

-- s has been looked at, and t is the tallest so far
unfoldable pub judged : ℤ → Sign → Sign → Looked
judged needed s t = elim (lt_z (extent s) needed) [ true ↦ short t | false ↦ enough s ]

unfoldable pub look : ℤ → Looked → Sign → Looked
look needed nothing s = judged needed s s
look needed (short t) s = judged needed s (taller t s)
look needed (enough e) s = enough e

unfoldable pub looked_at : ℤ → Looked → List Sign → Looked
looked_at needed far [] = far
looked_at needed far (s ∷ l) = looked_at needed (look needed far s) l

abbrev pub outcome : Looked → Option Sign
outcome nothing = none
outcome (short t) = some t
outcome (enough e) = some e
