-- The rules for the CH records, as the test goes through them: those for each and that for their order together.
-- Assumes nothing.
use Rattle.std.specs.Prelude.{Bool, ◌&&◌, List, ℕ}
use Rattle.font.specs.Records.{every, good_character, rising}

unfoldable pub sound_characters : List (List ℕ) → Bool
sound_characters l = every good_character l && rising l
