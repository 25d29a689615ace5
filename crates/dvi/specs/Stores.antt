-- What the code's stores come to.
--     number_stored     the four bytes of a number that was turned round
--     place_stores, glyph_stores     stores one after the other are those of a node's bytes; a rule's are in proofs/Stores.antt
-- Assumes nothing.
use Rattle.std.specs.Prelude.{◌≡◌, refl, List, [], ℤ, neg_ℤ, length, set}
use Rattle.std.proofs.Common.{sym, ◌∙◌}
use Prim.Native.Nat.{ℕ, suc, ◌+◌, ◌*◌, ◌≤◌}
use native.Mathlib.Omega.{arith}
use Rattle.std.proofs.lemmas.List.Edits.{sets, sets-eq}
use Rattle.scaled.specs.Made.{reach}
use Rattle.scaled.specs.Signed.{Within}
use Rattle.words.specs.Words.{word_of, four_bytes}
use Rattle.nodes.specs.Nodes.{Node, glyph, bytes_in_node, signed_bytes, node_bytes}
use Rattle.nodes.specs.NodeLaws.{length_node_bytes}
use Rattle.nodes.specs.Buffer.{written, put, behind_nodes}
use Rattle.nodes.specs.BufferLaws.{written_room, behind_at_lem}
use Rattle.dvi.specs.Commands.{big_endian, command_bytes, commands_bytes, turned_word}
use Rattle.dvi.specs.NumberLaws.{turned_bytes}
use Rattle.dvi.specs.Body.{place_commands, commands_of, body_bytes}
use Rattle.dvi.specs.BodyLaws.{glyph_size}
use Rattle.dvi.specs.ProfileLaws.{Facts, of_glyph}

pub number_stored : {w t : ℕ} (z : ℤ) → w ≡ word_of z → t ≡ turned_word w → four_bytes t ≡ big_endian z
unfolding big_endian signed_bytes
number_stored z is turned = rw (turned, is) (turned_bytes (word_of z))

module _ (b : List ℕ) where
  -- at k: push, right4 x, down4
  pub place_stores : {z : ℤ} {b₁ b₂ : List ℕ} (k : ℕ) (x y : ℤ) → z ≡ neg_ℤ y →
      b₁ ≡ sets (set (set b k 141) (k + 1) 146) (k + 2) (big_endian x) → b₂ ≡ sets (set b₁ (k + 6) 160) (k + 7) (big_endian z) →
      b₂ ≡ sets b k (commands_bytes (place_commands x y))
  unfolding commands_bytes command_bytes big_endian signed_bytes four_bytes
  place_stores k x y down first second =
      let one : k + 1 ≡ suc k = omega arith in
      let two : k + 2 ≡ suc (suc k) = omega arith in
      let six : k + 6 ≡ suc (suc (suc (suc (suc (suc k))))) = omega arith in
      let seven : k + 7 ≡ suc (suc (suc (suc (suc (suc (suc k)))))) = omega arith in
      second ∙ rw (first, down, one, two, six, seven)

  pub glyph_stores : {b₁ : List ℕ} (x y : ℤ) (size family code : ℕ) →
      b₁ ≡ sets (set b 0 (171 + 16 * size + family)) 1 (commands_bytes (place_commands x y)) →
      set (set (set b₁ 12 128) 13 code) 14 142 ≡ sets b 0 (body_bytes (glyph x y size family code))
  unfolding body_bytes commands_of commands_bytes command_bytes big_endian signed_bytes four_bytes
  glyph_stores x y size family code first =
      let opcode : 171 + 16 * size + family ≡ 171 + (16 * size + family) = omega arith in
      rw (first, opcode)

  -- a node's bytes over the front of a buffer, as the crate `nodes` has it
  pub written_sets : (s : List ℕ) → length s ≡ bytes_in_node → bytes_in_node ≤ length b → written s b ≡ sets b 0 s
  written_sets s size room =
      let end : 0 + length s ≡ bytes_in_node = omega arith in
      written_room s b room ∙ sym (sets-eq s b 0 (omega arith) ∙ rw end)

  pub put_sets : (n : Node) → bytes_in_node ≤ length b → put n b ≡ sets b 0 (node_bytes n)
  put_sets n room = written_sets (node_bytes n) (length_node_bytes n) room

  pub put_behind_sets : (n : Node) → bytes_in_node ≤ length b → behind_nodes 0 (put n) b ≡ sets b 0 (node_bytes n)
  put_behind_sets n room = behind_at_lem 0 (put n) [] b refl ∙ put_sets n room

-- ---- what is asked of a node that is written

pub glyph_asks : {x y : ℤ} {size family code n : ℕ} → Facts (glyph x y size family code) →
    length (body_bytes (glyph x y size family code)) ≤ n → (15 ≤ n) × (size ≤ 2) × (family ≤ 15) × Within reach y
glyph_asks {x} {y} {size} {family} {code} (of_glyph in-x in-y s f c) room = (omega (arith, glyph_size x y size family code), s, f, omega arith)
