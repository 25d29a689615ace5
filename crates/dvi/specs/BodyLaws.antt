-- The bytes of a node in a body, one after the other.
--     at_place                   the opening of every node, and what follows it
--     glyph_body_lem             a glyph's bytes by that opening
--     glyph_size                 how many there are
-- A rule's are in proofs/BodyLaws.antt.
-- Assumes nothing.
use Rattle.std.specs.Prelude.{◌≡◌, ℕ, ◌+◌, ◌*◌, ℤ, neg_ℤ}
use Rattle.std.proofs.Math.Path.{refl, ap}
use mathlib.Core.List.{List, [], ◌∷◌, ◌++◌}
use Rattle.std.proofs.Math.ListN.{length}
use Rattle.words.specs.Words.{four_bytes}
use Rattle.nodes.specs.Nodes.{glyph, signed_bytes}
use Rattle.dvi.specs.Commands.{first_font, push_opcode, big_endian, command_bytes, commands_bytes}
use Rattle.dvi.specs.Body.{commands_of, body_bytes, bytes_in_glyph}

-- push, right4, down4
abbrev pub at_place : ℤ → ℤ → List ℕ → List ℕ
at_place right down p = push_opcode ∷ 146 ∷ (big_endian right ++ (160 ∷ (big_endian down ++ p)))

module _ (x y : ℤ) where
  pub glyph_body_lem : (size family code : ℕ) →
      body_bytes (glyph x y size family code) ≡ (first_font + (16 * size + family)) ∷ at_place x (neg_ℤ y) (128 ∷ code ∷ 142 ∷ [])
  unfolding body_bytes commands_of commands_bytes command_bytes
  glyph_body_lem size family code = refl

  pub glyph_size : (size family code : ℕ) → length (body_bytes (glyph x y size family code)) ≡ bytes_in_glyph
  unfolding big_endian signed_bytes four_bytes
  glyph_size size family code = ap length (glyph_body_lem size family code)
