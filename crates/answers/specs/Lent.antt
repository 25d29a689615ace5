-- The words that a call is lent for the indexes of the two tables (change request 9).
--     Lent, enough                     how many there are, and whether each table's index has room
--     builds                           whether a call gets past the tests before the formula is read, 1, 2, 8 and 19
--     index_after, client_index_after     the words after a call: with the index of their table at the front, where it builds, or as they were
-- What the words hold before a call changes no answer: no definition of an answer has them.
-- Assumes nothing.
use Rattle.std.specs.Prelude.{Bool, true, false, ◌&&◌, List, ◌++◌, ℕ, leb, length, drop}
use Rattle.std.proofs.Math.Option.{Option, none, some}
use Rattle.font.specs.Records.{character_records, client_records}
use Rattle.font.specs.Table.{good_table, good_client}
use Rattle.font_index.specs.Index.{index_words, index_of}
use Rattle.boxes.specs.declared.styles.Style.{Style}
use Rattle.boxes.specs.Styles.{style_of}

-- how many words are lent, for the index of our table and for that of the client's
pub record Lent : Type 0 where
  pub ours : ℕ
  pub client : ℕ

abbrev pub lends : ℕ → ℕ → Lent
lends ours client = record { ours = ours; client = client }

abbrev pub lent_of : List ℕ → List ℕ → Lent
lent_of i j = lends (length i) (length j)

unfoldable pub enough : Lent → Bool
enough lent = leb index_words lent.ours && leb index_words lent.client

abbrev pub has_style : Option Style → Bool
has_style none = false
has_style (some s) = true

unfoldable pub builds : ℕ → List ℕ → List ℕ → Lent → Bool
builds style table client lent = has_style (style_of style) && (good_table table && (good_client table client && enough lent))

-- the words for the index of some records; those past it stay
unfoldable pub built_if : Bool → List (List ℕ) → List ℕ → List ℕ
built_if true l words = index_of l ++ drop index_words words
built_if false l words = words

-- the words i for our table's index, and j for the client's
abbrev pub index_after : ℕ → List ℕ → List ℕ → List ℕ → List ℕ → List ℕ
index_after style table client i j = built_if (builds style table client (lent_of i j)) (character_records table) i

abbrev pub client_index_after : ℕ → List ℕ → List ℕ → List ℕ → List ℕ → List ℕ
client_index_after style table client i j = built_if (builds style table client (lent_of i j)) (client_records client) j
