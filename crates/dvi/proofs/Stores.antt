-- What the code's stores of a rule come to.
--     rule_stores     stores one after the other are those of a rule's bytes
--     rule_asks       what is asked of a rule that is written
-- Assumes nothing.
use Rattle.std.specs.Prelude.{◌≡◌, List, ℤ, length, set}
use Prim.Native.Nat.{ℕ, ◌≤◌}
use native.Mathlib.Omega.{arith}
use Rattle.std.proofs.lemmas.List.Edits.{sets}
use Rattle.scaled.specs.Made.{reach}
use Rattle.scaled.specs.Signed.{Within}
use Rattle.words.specs.Words.{four_bytes}
use Rattle.nodes.specs.Nodes.{rule, signed_bytes}
use Rattle.dvi.specs.Commands.{big_endian, command_bytes, commands_bytes}
use Rattle.dvi.specs.Body.{place_commands, commands_of, body_bytes}
use Rattle.dvi.proofs.BodyLaws.{rule_size_lem}
use Rattle.dvi.specs.ProfileLaws.{Facts, of_rule}

module _ (b : List ℕ) where
  pub rule_stores : {b₁ b₂ b₃ : List ℕ} (x y width thickness : ℤ) → b₁ ≡ sets b 0 (commands_bytes (place_commands x y)) →
      b₂ ≡ sets (set b₁ 11 132) 12 (big_endian thickness) → b₃ ≡ sets b₂ 16 (big_endian width) →
      set b₃ 20 142 ≡ sets b 0 (body_bytes (rule x y width thickness))
  unfolding body_bytes commands_of commands_bytes command_bytes big_endian signed_bytes four_bytes
  rule_stores x y width thickness first second third = rw (third, second, first)

pub rule_asks : {x y width thickness : ℤ} {n : ℕ} → Facts (rule x y width thickness) →
    length (body_bytes (rule x y width thickness)) ≤ n → (21 ≤ n) × Within reach y
rule_asks {x} {y} {width} {thickness} (of_rule in-x in-y w t) room = (omega (arith, rule_size_lem x y width thickness), omega arith)
