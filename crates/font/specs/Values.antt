-- What functions on a table answer, in the terms of `Font`.
--     KeyOf                              a key is that of a record's symbol
--     HandsBack                          a lookup hands back a record
--     successor_as, metrics_as, found_as    what a record says, and what a lookup found
--     parameters_in                      rows of numbers as parameters
--     HoldsRow, HoldsParameters          rows of numbers hold the parameters of a table's font: one size's, and those of all three
-- Assumes nothing.
use Rattle.std.specs.Prelude.{◌≡◌, List, [], ℕ, length, get_or, Option, Some, None}
use Rattle.std.specs.Borrow.{Bor}
use Rattle.std.proofs.Math.Option.{none, some}
use Rattle.std.proofs.Math.Option.{Option as OptionOf}
use Rattle.font.specs.declared.Metrics as declared
use Rattle.font.specs.declared.Key as keys
use Rattle.font.specs.Records.{character_bytes, size_byte, family_byte, code_byte}
use Rattle.font.specs.Font.{Metrics, font_of}

-- ---- a key

-- k is what the symbol of the record r is known by
pub record KeyOf (k : keys.Key) (r : List ℕ) : Type 0 where
  pub size_is : k.size ≡ size_byte r
  pub family_is : k.family ≡ family_byte r
  pub code_is : k.code ≡ code_byte r

-- ---- a record that is looked up

-- the part that holds it, whose bytes are q and which starts at the place p, or nothing where there are no bytes
abbrev pub HandsBack : Option (Bor (List ℕ)) → List ℕ → ℕ × ℕ → Type 0
HandsBack None q p = q ≡ []
HandsBack (Some r) q p = (length r.now ≡ character_bytes) × (r.now ≡ q) × (r.ref_ptr ≡ p)

-- ---- a lookup

abbrev pub successor_as : Option ℕ → OptionOf ℕ
successor_as None = none
successor_as (Some c) = some c

abbrev pub metrics_as : declared.Metrics → Metrics
metrics_as m =
    record {
      width = m.width;
      height = m.height;
      depth = m.depth;
      italic = m.italic;
      successor = successor_as m.successor;
    }

abbrev pub found_as : Option declared.Metrics → OptionOf Metrics
found_as None = none
found_as (Some m) = some (metrics_as m)

-- ---- the parameters

-- three rows of thirty-five words, read by size and number
unfoldable pub parameters_in : List (List ℕ) → ℕ → ℕ → ℕ
parameters_in p size number = get_or (get_or p size []) number 0

-- the numbers of r are the parameters of one size, of the font of t
pub record HoldsRow (r : List ℕ) (t : List ℕ) (size : ℕ) : Type 0 where
  pub held : (number : ℕ) → get_or r number 0 ≡ (font_of t).parameter size number

-- the rows of r are those of the three sizes
pub record HoldsParameters (r : List (List ℕ)) (t : List ℕ) : Type 0 where
  pub held : (size number : ℕ) → get_or (get_or r size []) number 0 ≡ (font_of t).parameter size number
