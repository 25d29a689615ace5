-- What is known of a node that can be written.
--     Extent, Facts              the test of a node as facts that `omega` reads; that they are its test is in proofs/ProfileLaws.antt
--     width_kept, stored_width   a width that is not negative is stored as it is
--     all_append                 two runs of nodes
-- Assumes nothing.
use Rattle.std.specs.Prelude.{◌≡◌, true, List, [], ◌∷◌, ◌++◌, ℕ, ◌≤◌, ℤ, pos}
use Rattle.std.proofs.Common.{arith}
use Rattle.laws.specs.Truths.{both_true, true_both}
use Rattle.scaled.specs.Length.{max_ℤ}
use Rattle.scaled.specs.Signed.{Within, NotNegative}
use Rattle.scaled.specs.Linear.{#, greatest}
use Rattle.scaled.proofs.Linear.{eq_by}
use Rattle.nodes.specs.Nodes.{Node, glyph, rule}
use Rattle.nodes.specs.Bounds.{greatest_length}
use Rattle.dvi.specs.Profile.{greatest_size, greatest_family, greatest_byte, writable, all_writable}

-- a width or a thickness
pub record Extent (z : ℤ) : Type 0 where
  pub short : Within greatest_length z
  pub up : NotNegative z

pub width_kept : {z : ℤ} → Extent z → max_ℤ (pos 0) z ≡ z
width_kept {z} e = eq_by (greatest (# (pos 0)) (# z)) (# z) (omega arith)

pub data Facts : Node → Type 0 where
  of_glyph : {x y : ℤ} {size family code : ℕ} → Within greatest_length x → Within greatest_length y → size ≤ greatest_size →
      family ≤ greatest_family → code ≤ greatest_byte → Facts (glyph x y size family code)
  of_rule : {x y width thickness : ℤ} → Within greatest_length x → Within greatest_length y → Extent width → Extent thickness →
      Facts (rule x y width thickness)

pub stored_width : {x y width thickness : ℤ} → Facts (rule x y width thickness) → max_ℤ (pos 0) width ≡ width
stored_width (of_rule in-x in-y w t) = width_kept w

pub all_append : (ms ns : List Node) → all_writable ms ≡ true → all_writable ns ≡ true → all_writable (ms ++ ns) ≡ true
unfolding all_writable
all_append [] ns t u = u
all_append (m ∷ ms) ns t u = let both = both_true {p = writable m} t in true_both both.0 (all_append ms ns both.1 u)
