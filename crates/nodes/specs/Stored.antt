-- The node that stands at the front of some bytes, as nodes are stored.
--     number_at k s          the signed word at a place
--     glyph_in, rule_in       the numbers of a glyph, and those of a rule
--     node_in                the one or the other, by the first byte
--     glyph_in_lem, rule_in_lem     which one it is
-- Assumes nothing.
use Rattle.std.specs.Prelude.{◌≡◌, cond, List, ℕ, eqb, ℤ, drop, get_or}
use Rattle.std.proofs.Common.{eq-eqb, ne_eqb}
use Rattle.words.specs.Words.{little_endian, signed_word}
use Rattle.nodes.specs.Nodes.{Node, glyph, rule}

abbrev pub number_at : ℕ → List ℕ → ℤ
number_at k s = signed_word (little_endian 4 (drop k s))

abbrev pub glyph_in : List ℕ → Node
glyph_in s = glyph (number_at 2 s) (number_at 6 s) (get_or s 10 0) (get_or s 11 0) (get_or s 12 0)

abbrev pub rule_in : List ℕ → Node
rule_in s = rule (number_at 2 s) (number_at 6 s) (number_at 10 s) (number_at 14 s)

-- `G` opens a glyph
unfoldable pub node_in : List ℕ → Node
node_in s = cond (eqb (get_or s 0 0) 71) (glyph_in s) (rule_in s)

module _ (s : List ℕ) where
  pub glyph_in_lem : get_or s 0 0 ≡ 71 → node_in s ≡ glyph_in s
  unfolding node_in
  glyph_in_lem e = rw (eq-eqb (get_or s 0 0) 71 e)

  pub rule_in_lem : (get_or s 0 0 ≡ 71 → ⊥) → node_in s ≡ rule_in s
  unfolding node_in
  rule_in_lem e = rw (ne_eqb (get_or s 0 0) 71 e)
