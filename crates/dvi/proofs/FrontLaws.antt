-- A node that can be written is found at the front of its bytes, in either form.
--     size_least, size_most      a node has at least a byte, and at most twice as many as in the other form
--     look_own                   a node that can be written is what its bytes look like
--     front_own                  so it is found at their front
-- Assumes nothing.
use Rattle.std.specs.Prelude.{◌≡◌, List, ◌++◌, reverse, ℕ, ◌+◌, ◌*◌, ◌≤◌, ℤ, pos, neg_ℤ, length}
use Rattle.std.proofs.Math.Path.{refl}
use Rattle.std.proofs.Common.{ap, ◌∙◌, arith, ne_eqb}
use Rattle.std.proofs.Math.Bool.{true}
use Rattle.std.proofs.Math.Option.{some}
use Rattle.std.proofs.Math.IntN.{neg_ℤ-neg_ℤ}
use Rattle.scaled.specs.Length.{max_ℤ}
use Rattle.scaled.specs.Signed.{Within, own, parts_neg}
use Rattle.words.specs.Words.{little_endian, signed_word, four_bytes}
use Rattle.nodes.specs.Nodes.{Node, glyph, rule, signed_bytes, node_bytes}
use Rattle.nodes.specs.Stored.{node_in}
use Rattle.nodes.specs.NodeLaws.{length_node_bytes}
use Rattle.nodes.specs.Bounds.{greatest_length}
use Rattle.dvi.specs.declared.forms.Form.{Form}
use Rattle.dvi.specs.declared.forms.Form.TheVariants.{Stored, Body}
use Rattle.dvi.specs.Commands.{big_endian, command_bytes, commands_bytes}
use Rattle.dvi.specs.NumberLaws.{stored_back, big_back}
use Rattle.dvi.specs.Body.{commands_of, body_bytes}
use Rattle.dvi.proofs.BodyLaws.{body_least, body_most}
use Rattle.dvi.specs.Profile.{writable}
use Rattle.dvi.specs.ProfileLaws.{Facts, of_glyph, of_rule, width_kept}
use Rattle.dvi.proofs.ProfileLaws.{facts}
use Rattle.dvi.specs.Forms.{bytes_in, looks_like, front_in}
use Rattle.dvi.specs.FrontLaws.{leads_own}

-- ---- how many bytes a node has
pub size_least : (f : Form) (n : Node) → 1 ≤ length (bytes_in f n)
size_least Stored n = omega (arith, length_node_bytes n)
size_least Body n = omega (arith, body_least n)

pub size_most : (f g : Form) (n : Node) → length (bytes_in g n) ≤ 2 * length (bytes_in f n)
size_most Stored Stored n = omega arith
size_most Stored Body n = omega (arith, length_node_bytes n, body_most n)
size_most Body Stored n = omega (arith, length_node_bytes n, body_least n)
size_most Body Body n = omega arith

-- ---- a node by its own bytes
glyph_by : {x y x' y' : ℤ} {size family code size' family' code' : ℕ} → x ≡ x' → y ≡ y' → size ≡ size' → family ≡ family' →
    code ≡ code' → glyph x y size family code ≡ glyph x' y' size' family' code'
glyph_by a b c d e = cc

rule_by : {x y w t x' y' w' t' : ℤ} → x ≡ x' → y ≡ y' → w ≡ w' → t ≡ t' → rule x y w t ≡ rule x' y' w' t'
rule_by a b c d = cc

-- a height that was negated, read and negated again
down_back : (y : ℤ) → Within greatest_length y → neg_ℤ (signed_word (little_endian 4 (reverse (big_endian (neg_ℤ y))))) ≡ y
down_back y l = ap neg_ℤ (big_back (neg_ℤ y) (omega (arith, parts_neg (own y)))) ∙ neg_ℤ-neg_ℤ y

look_by : (f : Form) {n : Node} (r : List ℕ) → Facts n → looks_like f (bytes_in f n ++ r) ≡ n
unfolding looks_like node_in node_bytes signed_bytes four_bytes body_bytes commands_of commands_bytes command_bytes big_endian
look_by Stored r (of_glyph {x} {y} in-x in-y s f c) = glyph_by (stored_back x _ in-x) (stored_back y _ in-y) refl refl refl
look_by Stored r (of_rule {x} {y} {width} {thickness} in-x in-y w t) =
    let kept = width_kept w in
    rule_by (stored_back x _ in-x) (stored_back y _ in-y) (stored_back (max_ℤ (pos 0) width) _ (rw kept w.short) ∙ kept)
    (stored_back thickness _ t.short)
look_by Body r (of_glyph {x} {y} {size} {family} in-x in-y s f c) =
    rw (ne_eqb (171 + (16 * size + family)) 141 (λ e. omega arith))
    (glyph_by (big_back x in-x) (down_back y in-y) (omega arith) (omega arith) refl)
look_by Body r (of_rule {x} {y} {width} {thickness} in-x in-y w t) =
    rule_by (big_back x in-x) (down_back y in-y) (big_back width w.short) (big_back thickness t.short)

module _ (f : Form) where
  pub look_own : (n : Node) (r : List ℕ) → writable n ≡ true → looks_like f (bytes_in f n ++ r) ≡ n
  look_own n r t = look_by f r (facts n t)

  pub front_own : (n : Node) (r : List ℕ) → writable n ≡ true → front_in f (bytes_in f n ++ r) ≡ some n
  unfolding front_in
  front_own n r t = rw (look_own n r t, leads_own (bytes_in f n) r, t)
