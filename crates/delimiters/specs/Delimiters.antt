-- Variable delimiters (request 3). The small symbol is tried before the large one, and each in the font size at hand before the
-- next larger, up to text size; in a font size the chain of its successors is gone along. The first symbol tall enough is taken,
-- and if there is none the tallest, the first of those equally tall.
--     candidates    the symbols in the order of the search
--     sign_for       the one that is taken, if there is any
--     sign_size, sign_nodes    its box, and its node at a place
--     has_sign       whether there is any
--     Signs         what was taken for the delimiters of an item
-- Assumes nothing.
use Rattle.std.specs.Prelude.{Bool, true, false, ◌&&◌, List, [], ◌∷◌, ◌++◌, ℕ, zero, suc, eqb, ℤ, pos, ◌+ℤ◌}
use Rattle.std.proofs.Math.Option.{Option, none, some}
use Rattle.std.specs.Int.Signed.{lt_z}
use Rattle.font.specs.Font.{Metrics, Font}
use Rattle.font.specs.Chains.{longest_chain}
use Rattle.formula.specs.declared.Pair.{Pair}
use Rattle.formula.specs.declared.Delimiter.{Delimiter}
use Rattle.boxes.specs.Boxes.{Size, char_size, blank_size, Offset, OwnNode, signed}

-- a symbol where it was found
pub record Sign : Type 0 where
  pub size : ℕ
  pub family : ℕ
  pub code : ℕ
  pub metrics : Metrics

-- ---- the symbols in the order of the search

-- a chain from a code on, if there is one
abbrev pub from_next : (ℕ → List Sign) → Option ℕ → List Sign
from_next chain none = []
from_next chain (some code) = chain code

-- a symbol, if it is present, and those from its successor on
unfoldable pub chain_by : ℕ → ℕ → (ℕ → List Sign) → ℕ → Option Metrics → List Sign
chain_by size family behind code none = []
chain_by size family behind code (some m) =
    record { size = size; family = family; code = code; metrics = m } ∷ from_next behind m.successor

-- the symbol of a code, and those that at most so many steps lead to
unfoldable pub chain : Font → ℕ → ℕ → ℕ → ℕ → List Sign
chain F size family zero code = chain_by size family (λ successor. []) code (F.symbol size family code)
chain F size family (suc steps) code = chain_by size family (chain F size family steps) code (F.symbol size family code)

-- a symbol in sizes from this one up to text
unfoldable pub in_sizes : Font → ℕ → ℕ → ℕ → List Sign
in_sizes F family code zero = chain F 0 family longest_chain code
in_sizes F family code (suc size) = chain F (suc size) family longest_chain code ++ in_sizes F family code size

-- two zero bytes stand for no symbol
unfoldable pub of_pair : Font → ℕ → Pair → List Sign
of_pair F size p = elim (eqb p.family 0 && eqb p.code 0) [ true ↦ [] | false ↦ in_sizes F p.family p.code size ]

unfoldable pub candidates : Font → ℕ → Delimiter → List Sign
candidates F size d = of_pair F size d.small ++ of_pair F size d.large

-- ---- the one that is taken

-- height plus depth
unfoldable pub extent : Sign → ℤ
extent s = pos s.metrics.height +ℤ pos s.metrics.depth

unfoldable pub first_enough : ℤ → List Sign → Option Sign
first_enough needed [] = none
first_enough needed (s ∷ l) = elim (lt_z (extent s) needed) [ true ↦ first_enough needed l | false ↦ some s ]

-- of two the taller, the first of equals
unfoldable pub taller : Sign → Sign → Sign
taller a b = elim (lt_z (extent a) (extent b)) [ true ↦ b | false ↦ a ]

unfoldable pub tallest : Sign → List Sign → Sign
tallest s [] = s
tallest s (t ∷ l) = tallest (taller s t) l

-- the first that suffices, or else the tallest
unfoldable pub taken : ℤ → List Sign → Option Sign
taken needed [] = none
taken needed (s ∷ l) = elim (first_enough needed (s ∷ l)) [ some enough ↦ some enough | none ↦ some (tallest s l) ]

unfoldable pub sign_for : Font → ℕ → Delimiter → ℤ → Option Sign
sign_for F size d needed = taken needed (candidates F size d)

-- ---- its box, and its node, which has the size in which it was found; an absent one is blank

abbrev pub sign_size : Option Sign → Size
sign_size none = blank_size
sign_size (some s) = char_size s.metrics

abbrev pub sign_nodes : Offset → Option Sign → List OwnNode
sign_nodes place none = []
sign_nodes place (some s) = signed record { place = place; size = s.size; family = s.family; code = s.code } ∷ []

-- ---- whether there is any, however tall it has to be

unfoldable pub has_any : List Sign → Bool
has_any [] = false
has_any (s ∷ l) = true

unfoldable pub has_sign : Font → ℕ → Delimiter → Bool
has_sign F size d = has_any (candidates F size d)

-- ---- for the delimiters of an item: before its first field, and behind it

pub record Signs : Type 0 where
  pub before : Option Sign
  pub behind : Option Sign

abbrev pub no_signs : Signs
no_signs = record { before = none; behind = none }
