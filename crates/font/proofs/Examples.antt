-- Worked tables: for the rule on chains (request 3), sixteen steps, seventeen, a step to an absent symbol, a ring; and with a client's
-- table over ours (request 6), records and chains that pass from one to the other.
-- Assumes nothing.
use mathlib.Core.Path.{◌≡◌, refl}
use mathlib.Core.Bool.{true, false}
use mathlib.Core.List.{List, [], ◌∷◌, ◌++◌}
use Prim.Native.Nat.{ℕ, zero, suc}
use lib.ListN.{replicate}
use Rattle.words.specs.Words.{little_endian}
use Rattle.font.specs.Records.{pieces, character_count, parameter_records, character_records, words, marked, parameter_words, metric_words, every}
use Rattle.font.specs.Records.{client_count, client_records, good_parameters, good_character, before, rising, good_length, good_records, good_client_length, good_client_records}
use Rattle.font.specs.Font.{successor_of, metrics_of, is_of, lookup, font_of, font_with, record_in, record_of, place_in, place_of}
use Rattle.font.specs.Chains.{next, goes_on, chain_ends}
use Rattle.font.specs.Table.{good_table, seen_ends, good_client}

-- a PA record, all of whose words are 0
row : List ℕ
row = 80 ∷ 65 ∷ replicate 140 0

-- a table with these CH records
table : List ℕ → List ℕ
table records = row ++ row ++ row ++ records

-- a CH record of text size and family 0, all of whose words are 0
symbol : ℕ → ℕ → ℕ → List ℕ
symbol code flag successor = 67 ∷ 72 ∷ 0 ∷ 0 ∷ code ∷ flag ∷ successor ∷ replicate 16 0

-- n symbols from a code on, each with the next code for its successor, and then others
ladder : ℕ → ℕ → List ℕ → List ℕ
ladder code zero others = others
ladder code (suc n) others = symbol code 1 (suc code) ++ ladder (suc code) n others

-- sixteen steps; seventeen; a seventeenth to a symbol that is absent; a ring
chains-judged :
    (good_table (table (ladder 0 16 (symbol 16 0 0))) ≡ true)
    × (good_table (table (ladder 0 17 (symbol 17 0 0))) ≡ false)
    × (good_table (table (ladder 0 17 [])) ≡ true)
    × (good_table (table (symbol 0 1 0)) ≡ false)
unfolding table row symbol ladder little_endian pieces character_count parameter_records character_records words marked parameter_words metric_words every good_parameters good_character before rising good_length good_records successor_of metrics_of is_of lookup font_of next goes_on chain_ends good_table
chains-judged = (refl, refl, refl, refl)

-- ours has the codes 0 and 1, the client 1 and 2: each record and its place, and of code 3 none
client-seen :
    let ours = table (symbol 0 0 0 ++ symbol 1 0 0) in
    let client = symbol 1 1 2 ++ symbol 2 0 0 in
    (record_of ours client 0 0 0 ≡ symbol 0 0 0)
    × (record_of ours client 0 0 1 ≡ symbol 1 1 2)
    × (record_of ours client 0 0 3 ≡ [])
    × (place_of ours client (1, 100) (2, 500) 0 0 0 ≡ (1, 526))
    × (place_of ours client (1, 100) (2, 500) 0 0 2 ≡ (2, 523))
unfolding table row symbol pieces character_count character_records client_count client_records is_of record_in record_of place_in place_of
client-seen = (refl, refl, refl, refl, refl)

-- a seventeenth step through the client's table; a chain of sixteen that the client cuts in two; a ring through both, and the same
-- where the client hides a part of it
chains-of-both :
    (good_client (table (ladder 0 16 (symbol 16 0 0))) (symbol 16 1 17 ++ symbol 17 0 0) ≡ false)
    × (good_client (table (ladder 0 16 (symbol 16 0 0))) (symbol 8 0 0) ≡ true)
    × (good_client (table (symbol 0 1 1 ++ symbol 1 0 0)) (symbol 1 1 0) ≡ false)
    × (good_client (table (symbol 0 1 1 ++ symbol 1 0 0)) (symbol 0 0 0 ++ symbol 1 1 0) ≡ true)
unfolding table row symbol ladder little_endian pieces character_count character_records client_count client_records words marked metric_words every good_character before rising good_client_length good_client_records successor_of metrics_of is_of lookup font_of font_with next goes_on seen_ends good_client
chains-of-both = (refl, refl, refl, refl)
