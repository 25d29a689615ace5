-- A font as the rest of the setter sees it, with no byte of the table (document 01, "What the setter covers").
--     Metrics     what a character record says of a symbol
--     Font        a parameter by size and number, a symbol by size, family and code
--     font_of t    the font that a good table t holds
--     font_with t c    the same under a client's table c, whose symbols come before those of t (request 6)
--     Tables, font_in    our table and a client's, and the font that they hold
--     record_of t c    the record of a symbol, from whichever of the two holds it, or no bytes
--     place_of t c     where that record starts
-- Assumes nothing.
use Rattle.std.specs.Prelude.{Bool, true, false, ◌&&◌, List, [], ◌∷◌, map, ℕ, ◌+◌, eqb, get_or}
use Rattle.std.proofs.Math.Option.{Option, none, some}
use Rattle.font.specs.Records.{header_bytes, character_bytes, parameter_records, parameter_words, character_records, client_records, size_byte, family_byte, code_byte, flag_byte, successor_byte, metric_words}

pub record Metrics : Type 0 where
  pub width : ℕ
  pub height : ℕ
  pub depth : ℕ
  pub italic : ℕ
  pub successor : Option ℕ

-- parameters are numbered from 0: σ1 to σ22 are 0 to 21, ξ1 to ξ13 are 22 to 34
pub record Font : Type 0 where
  pub parameter : ℕ → ℕ → ℕ
  pub symbol : ℕ → ℕ → ℕ → Option Metrics

-- the successor code of a record, if its flag is set
unfoldable pub successor_of : List ℕ → Option ℕ
successor_of r = elim (eqb (flag_byte r) 1) [ true ↦ some (successor_byte r) | false ↦ none ]

unfoldable pub metrics_of : List ℕ → Metrics
metrics_of r =
    let w = metric_words r in
    record {
      width = get_or w 0 0;
      height = get_or w 1 0;
      depth = get_or w 2 0;
      italic = get_or w 3 0;
      successor = successor_of r;
    }

-- the record r is that of the symbol of this size, family and code
unfoldable pub is_of : ℕ → ℕ → ℕ → List ℕ → Bool
is_of size family code r = eqb (size_byte r) size && eqb (family_byte r) family && eqb (code_byte r) code

unfoldable pub lookup : ℕ → ℕ → ℕ → List (List ℕ) → Option Metrics
lookup size family code [] = none
lookup size family code (r ∷ l) =
    elim (is_of size family code r) [ true ↦ some (metrics_of r) | false ↦ lookup size family code l ]

unfoldable pub font_of : List ℕ → Font
font_of t =
    let rows = map parameter_words (parameter_records t) in
    let characters = character_records t in
    record {
      parameter = λ size number. get_or (get_or rows size []) number 0;
      symbol = λ size family code. lookup size family code characters;
    }

infixr 20 ◌or_ours◌
-- the client's symbol if there is one, or else ours
abbrev pub ◌or_ours◌ : Option Metrics → Option Metrics → Option Metrics
none or_ours m = m
some client or_ours m = some client

-- parameters are always ours
unfoldable pub font_with : List ℕ → List ℕ → Font
font_with t c =
    record {
      parameter = (font_of t).parameter;
      symbol = λ size family code. lookup size family code (client_records c) or_ours (font_of t).symbol size family code;
    }

-- our table and a client's
pub record Tables : Type 0 where
  pub ours : List ℕ
  pub client : List ℕ

-- the font that they hold
abbrev pub font_in : Tables → Font
font_in t = font_with t.ours t.client

-- ---- the record itself

-- of some records the one of a symbol, or no bytes
unfoldable pub record_in : ℕ → ℕ → ℕ → List (List ℕ) → List ℕ
record_in size family code [] = []
record_in size family code (r ∷ l) = elim (is_of size family code r) [ true ↦ r | false ↦ record_in size family code l ]

infixr 20 ◌or_record◌
abbrev pub ◌or_record◌ : List ℕ → List ℕ → List ℕ
[] or_record r = r
(b ∷ client) or_record r = b ∷ client

unfoldable pub record_of : List ℕ → List ℕ → ℕ → ℕ → ℕ → List ℕ
record_of t c size family code = record_in size family code (client_records c) or_record record_in size family code (character_records t)

-- ---- where it stands

-- of records one after the other, from the first byte on; behind the last if none is the symbol's
unfoldable pub place_in : ℕ → ℕ → ℕ → List (List ℕ) → ℕ
place_in size family code [] = 0
place_in size family code (r ∷ l) = elim (is_of size family code r) [ true ↦ 0 | false ↦ character_bytes + place_in size family code l ]

-- n bytes on from a place, which is an allocation and an offset
abbrev pub past : ℕ → ℕ × ℕ → ℕ × ℕ
past n p = (p.0, n + p.1)

-- p and q are where our table and the client's start
unfoldable pub place_of : List ℕ → List ℕ → ℕ × ℕ → ℕ × ℕ → ℕ → ℕ → ℕ → ℕ × ℕ
place_of t c p q size family code =
    elim (record_in size family code (client_records c)) [
      | [] ↦ past (place_in size family code (character_records t)) (past header_bytes p)
      | _ ∷ _ ↦ past (place_in size family code (client_records c)) q
    ]
