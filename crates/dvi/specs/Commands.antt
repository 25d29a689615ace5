-- The commands of DVI that a page's body is made of (request 14), and their bytes. A number has four bytes, in two's complement,
-- the most significant first.
--     big_endian z       a number's bytes
--     command_bytes c    a command's bytes: its opcode, and what it takes
--     turned_word w      a word with its bytes in the opposite order
-- Assumes nothing.
use Rattle.std.specs.Prelude.{List, [], ◌∷◌, ◌++◌, reverse, ℕ, ◌+◌, ℤ}
use Rattle.words.specs.Words.{little_endian, four_bytes}
use Rattle.nodes.specs.Nodes.{signed_bytes}

pub data Command : Type 0 where
  fnt_num : ℕ → Command  -- the font from here on, below 64
  push pop : Command  -- keeps the place; goes back to it
  right4 down4 : ℤ → Command  -- moves the place
  set1 : ℕ → Command  -- sets a character of the font
  set_rule : ℤ → ℤ → Command  -- sets a rule by its height and its width

-- the opcode of font 0; the others follow
abbrev pub first_font : ℕ
first_font = 171

abbrev pub push_opcode : ℕ
push_opcode = 141

unfoldable pub big_endian : ℤ → List ℕ
big_endian z = reverse (signed_bytes z)

unfoldable pub command_bytes : Command → List ℕ
command_bytes (fnt_num k) = (first_font + k) ∷ []
command_bytes push = push_opcode ∷ []
command_bytes pop = 142 ∷ []
command_bytes (right4 z) = 146 ∷ big_endian z
command_bytes (down4 z) = 160 ∷ big_endian z
command_bytes (set1 code) = 128 ∷ code ∷ []
command_bytes (set_rule height width) = 132 ∷ (big_endian height ++ big_endian width)

unfoldable pub commands_bytes : List Command → List ℕ
commands_bytes [] = []
commands_bytes (c ∷ cs) = command_bytes c ++ commands_bytes cs

unfoldable pub turned_word : ℕ → ℕ
turned_word w = little_endian 4 (reverse (four_bytes w))
