-- The name table (request 10): for each name a length of 1 to 32, its bytes, family, code and class.
--     front_name s       the record at the front of some bytes, if it is well formed
--     table_of s         the names of a table in order, or the place of its first bad record: one that is malformed, names a
--                       keyword, or repeats the name of a record before it
--     named ns w        the record of a word
--     Records s ns      the records of some bytes
--     first_for f c k ns     the first name of a symbol; of an atom's class too where k asks for it; `first_place` where its record stands
-- Assumes nothing.
use Rattle.std.specs.Prelude.{◌≡◌, Bool, true, false, not, ◌&&◌, List, [], ◌∷◌, ◌++◌, ℕ, zero, suc, ◌+◌, leb, eqb, length, take, drop, get_or}
use Rattle.std.specs.Prelude.{Option as CodeOption, Some, None}
use Rattle.std.proofs.Math.Option.{Option, none, some}
use Rattle.formula.specs.Heads.{greatest_family, greatest_class}
use Rattle.eqn_tokens.specs.Bytes.{all_word_bytes, same}
use Rattle.eqn_tokens.specs.Tokens.{Token, word, keyword, opening, closing, other, keyword_of}

pub record Name : Type 0 where
  pub bytes : List ℕ
  pub family : ℕ
  pub code : ℕ
  pub class : ℕ

abbrev pub longest_name : ℕ
longest_name = 32

-- behind a name of n bytes: family, code and class
abbrev pub name_in : ℕ → List ℕ → Name
name_in n s = record { bytes = take n s; family = get_or s n 0; code = get_or s (n + 1) 0; class = get_or s (n + 2) 0 }

-- the bytes of a record: its length, its name, and three more
abbrev pub record_bytes : Name → ℕ
record_bytes m = length m.bytes + 4

abbrev pub well_formed : ℕ → List ℕ → Bool
well_formed n s =
    leb 1 n && leb n longest_name && leb (n + 3) (length s) && all_word_bytes (take n s)
    && leb (get_or s n 0) greatest_family && leb (get_or s (n + 2) 0) greatest_class

unfoldable pub front_name : List ℕ → Option Name
front_name [] = none
front_name (n ∷ s) = elim (well_formed n s) [ true ↦ some (name_in n s) | false ↦ none ]

abbrev pub is_word : Token → Bool
is_word (word w) = true
is_word (keyword k) = false
is_word opening = false
is_word closing = false
is_word (other b) = false

abbrev pub is_keyword : List ℕ → Bool
is_keyword w = not (is_word (keyword_of w))

unfoldable pub named : List Name → List ℕ → Option Name
named [] w = none
named (m ∷ ms) w = elim (same m.bytes w) [ true ↦ some m | false ↦ named ms w ]

abbrev pub is_there : {A : Type 0} → Option A → Bool
is_there none = false
is_there (some a) = true

-- ---- the table

pub data Table : Type 0 where
  names : List Name → Table
  bad_at : ℕ → Table

-- a record's own rules hold; it must also be new, after the names that stand before it
abbrev pub is_new : List Name → Name → Bool
is_new before m = not (is_keyword m.bytes) && not (is_there (named before m.bytes))

-- the rest of a table, whose records before it are `before`, from the place `at` on
unfoldable pub record_then : (List Name → ℕ → List ℕ → Table) → List Name → ℕ → List ℕ → Option Name → Table
record_then R before at s none = bad_at at
record_then R before at s (some m) =
    elim (is_new before m) [ true ↦ R (before ++ (m ∷ [])) (at + record_bytes m) (drop (record_bytes m) s) | false ↦ bad_at at ]

unfoldable pub table_step : (List Name → ℕ → List ℕ → Table) → List Name → ℕ → List ℕ → Table
table_step R before at [] = names before
table_step R before at (b ∷ s) = record_then R before at (b ∷ s) (front_name (b ∷ s))

-- fewer than k records
unfoldable pub table_by : ℕ → List Name → ℕ → List ℕ → Table
table_by zero before at s = bad_at at
table_by (suc k) before at s = table_step (table_by k) before at s

-- a record has at least a byte
unfoldable pub table_of : List ℕ → Table
table_of s = table_by (suc (length s)) [] 0 s

-- the records of some bytes, one behind the other
pub data Records : List ℕ → List Name → Type 0 where
  ended : Records [] []
  next : {s : List ℕ} {m : Name} {ms : List Name} → front_name s ≡ some m → Records (drop (record_bytes m) s) ms → Records s (m ∷ ms)

-- ---- names for symbols

pub data Asked : Type 0 where
  any_class : Asked
  of_class : ℕ → Asked

abbrev pub has_class : Asked → ℕ → Bool
has_class any_class class = true
has_class (of_class k) class = eqb class k

abbrev pub asked_as : CodeOption ℕ → Asked
asked_as None = any_class
asked_as (Some class) = of_class class

unfoldable pub first_for : ℕ → ℕ → Asked → List Name → Option Name
first_for family code asked [] = none
first_for family code asked (m ∷ ms) =
    elim (eqb m.family family && eqb m.code code && has_class asked m.class) [
      | true ↦ some m
      | false ↦ first_for family code asked ms
    ]

-- the place of that record, where the first of the records stands at a place
unfoldable pub first_place : ℕ → ℕ → Asked → ℕ → List Name → ℕ
first_place family code asked at [] = at
first_place family code asked at (m ∷ ms) =
    elim (eqb m.family family && eqb m.code code && has_class asked m.class) [
      | true ↦ at
      | false ↦ first_place family code asked (at + record_bytes m) ms
    ]
