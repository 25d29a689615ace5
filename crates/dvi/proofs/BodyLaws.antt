-- The bytes of a rule in a body, and how many bytes a node has there.
--     rule_body_lem                         a rule's bytes by the opening of every node
--     rule_size_lem, body_least, body_most  how many there are
-- Assumes nothing.
use Rattle.std.specs.Prelude.{◌≡◌, ℕ, ◌≤◌, ℤ, neg_ℤ}
use Rattle.std.proofs.Math.Path.{ap}
use mathlib.Core.List.{List, [], ◌∷◌, ◌++◌, append_assoc}
use Rattle.std.proofs.Common.{arith}
use Rattle.std.proofs.Math.ListN.{length}
use Rattle.words.specs.Words.{four_bytes}
use Rattle.nodes.specs.Nodes.{Node, glyph, rule, signed_bytes}
use Rattle.dvi.specs.Commands.{big_endian, command_bytes, commands_bytes}
use Rattle.dvi.specs.Body.{commands_of, body_bytes, bytes_in_glyph, bytes_in_rule}
use Rattle.dvi.specs.BodyLaws.{at_place, glyph_size}

module _ (x y : ℤ) where
  pub rule_body_lem : (width thickness : ℤ) →
      body_bytes (rule x y width thickness)
      ≡ at_place x (neg_ℤ y) (132 ∷ (big_endian thickness ++ (big_endian width ++ (142 ∷ []))))
  unfolding body_bytes commands_of commands_bytes command_bytes
  rule_body_lem width thickness =
      ap (λ (p : List ℕ). at_place x (neg_ℤ y) (132 ∷ p)) (append_assoc (big_endian thickness) (big_endian width) (142 ∷ []))

  pub rule_size_lem : (width thickness : ℤ) → length (body_bytes (rule x y width thickness)) ≡ bytes_in_rule
  unfolding big_endian signed_bytes four_bytes
  rule_size_lem width thickness = ap length (rule_body_lem width thickness)

pub body_least : (n : Node) → bytes_in_glyph ≤ length (body_bytes n)
body_least (glyph x y size family code) = omega (arith, glyph_size x y size family code)
body_least (rule x y width thickness) = omega (arith, rule_size_lem x y width thickness)

pub body_most : (n : Node) → length (body_bytes n) ≤ bytes_in_rule
body_most (glyph x y size family code) = omega (arith, glyph_size x y size family code)
body_most (rule x y width thickness) = omega (arith, rule_size_lem x y width thickness)
