-- The numbers of a formula's format, as one value: document 01's, and those that are read since change request 8.
-- Assumes nothing.
use Rattle.std.specs.Prelude.{Bool, true, false, ℕ}

pub record Format : Type 0 where
  pub longest : ℕ  -- of a formula, in bytes
  pub deepest : ℕ  -- of a list; the formula itself is at depth 1
  pub long_lists : Bool  -- whether field kind 3, a list with a length of four bytes, is known

abbrev pub short_format : Format
short_format = record { longest = 4_096; deepest = 16; long_lists = false }

abbrev pub long_format : Format
long_format = record { longest = 131_072; deepest = 32; long_lists = true }

-- ---- the numbers of the format in use

abbrev pub formula_limit : ℕ
formula_limit = long_format.longest

abbrev pub depth_limit : ℕ
depth_limit = long_format.deepest
