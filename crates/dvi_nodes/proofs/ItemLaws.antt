-- The tests of a node, in the order in which the code makes them.
--     extent_tests                whether a number is a width or a thickness, for `is_extent`
--     glyph_tests, rule_tests     whether a node can be written, for `is_writable`
-- Assumes nothing.
use mathlib.Core.Path.{◌≡◌, ◌∙◌}
use mathlib.Core.Bool.{not, ◌&&◌, and_assoc, and-true, and-false}
use Prim.Native.Nat.{ℕ, ◌≤◌}
use native.Mathlib.Omega.{arith}
use borrow.Author.Tests.{le-leb, le-ltb}
use lib.Dec.{leb, leb-zero}
use lib.IntN.{ℤ, pos, negsuc}
use lib.Signed.{lt_z}
use Rattle.nodes.specs.Nodes.{glyph, rule}
use Rattle.nodes.specs.Bounds.{within}
use Rattle.dvi.specs.Profile.{greatest_size, greatest_family, greatest_byte, is_extent, writable}

pub extent_tests : (z : ℤ) → (within z && not (lt_z z (pos 0))) ≡ is_extent z
extent_tests (pos n) = rw (le-ltb n 0 (omega arith), leb-zero n) (and-true (within (pos n)))
extent_tests (negsuc n) = and-false (within (negsuc n))

module _ (x y : ℤ) where
  pub glyph_tests : (size family code : ℕ) → code ≤ greatest_byte →
      (within x && within y && leb size greatest_size && leb family greatest_family) ≡ writable (glyph x y size family code)
  unfolding writable
  glyph_tests size family code l =
      and_assoc (within x && within y) (leb size greatest_size) (leb family greatest_family)
      ∙ rw (le-leb code greatest_byte l, and-true (leb size greatest_size && leb family greatest_family))

  pub rule_tests : (width thickness : ℤ) →
      (within x && within y && is_extent width && is_extent thickness) ≡ writable (rule x y width thickness)
  unfolding writable
  rule_tests width thickness = and_assoc (within x && within y) (is_extent width) (is_extent thickness)
