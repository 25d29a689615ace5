-- When a font table breaks no rule, and when a client's table under it does not: the rules for the bytes (`Records`), and that for the
-- chains (`Chains`), of ours alone and of both as the lookup sees them.
-- Assumes nothing.
use Rattle.std.specs.Prelude.{◌≡◌, Bool, true, ◌&&◌, not, List, ℕ, suc, ◌*◌, ◌≤◌, length}
use Rattle.font.specs.Records.{character_bytes, most_characters, client_count, character_records, client_records, size_byte, family_byte, code_byte}
use Rattle.font.specs.Records.{every, good_character, rising, good_records, good_client_records}
use Rattle.font.specs.Font.{Font, font_of, font_with}
use Rattle.font.specs.Chains.{longest_chain, goes_on, chain_ends}

unfoldable pub good_table : List ℕ → Bool
good_table t = good_records t && every (chain_ends (font_of t)) (character_records t)

-- whether the chain ends that starts at the symbol of a record, as the lookup finds it: a record of ours that the client's hides takes no part
unfoldable pub seen_ends : Font → List ℕ → Bool
seen_ends F r =
    let size = size_byte r in
    let family = family_byte r in
    not (goes_on F size family (suc longest_chain) (F.symbol size family (code_byte r)))

-- a client's table under ours is refused, with number 8, where this is false
unfoldable pub good_client : List ℕ → List ℕ → Bool
good_client t c =
    let F = font_with t c in
    good_client_records c && every (seen_ends F) (client_records c) && every (seen_ends F) (character_records t)

-- what a lookup asks of the two tables
pub record SoundTables (t c : List ℕ) : Type 0 where
  pub ours : good_records t ≡ true
  pub client : good_client_records c ≡ true

-- and of CH records alone: they are whole, few enough, each keeps the rules, and they rise
pub record SoundRecords (s : List ℕ) : Type 0 where
  pub whole : length s ≡ character_bytes * client_count s
  pub few : client_count s ≤ most_characters
  pub good : every good_character (client_records s) ≡ true
  pub rise : rising (client_records s) ≡ true
