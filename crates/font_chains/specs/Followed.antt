-- What a test of a record's chain goes by: without the flag it starts none, and with no client's table it is its own symbol's.
--     Followed       of one record
--     AllFollowed    of each of some
-- Assumes nothing.
use Rattle.std.specs.Prelude.{◌≡◌, true, List, [], ℕ, ◌<◌, length, get_or}
use Rattle.font.specs.Records.{flag_byte}
use Rattle.font.specs.Font.{font_with}
use Rattle.font.specs.Chains.{chain_ends}
use Rattle.font.specs.Table.{seen_ends}

pub record Followed (t c r : List ℕ) : Type 0 where
  pub quiet : (flag_byte r ≡ 1 → ⊥) → seen_ends (font_with t c) r ≡ true
  pub own : length c ≡ 0 → seen_ends (font_with t c) r ≡ chain_ends (font_with t c) r

pub record AllFollowed (t c : List ℕ) (l : List (List ℕ)) : Type 0 where
  pub each : (i : ℕ) → i < length l → Followed t c (get_or l i [])
