-- Whether some bytes begin with those of a rule: the tests that the code makes.
--     stored_rule, body_rule_lem     in either form
-- Assumes nothing.
use Rattle.std.specs.Prelude.{◌≡◌, ◌&&◌, ℕ, ◌≤◌, neg_ℤ, get_or}
use Rattle.std.proofs.Math.Path.{sym}
use Rattle.std.proofs.Common.{◌∙◌}
use Rattle.std.proofs.Math.Bool.{true, and_assoc, and-true}
use mathlib.Core.List.{List, [], ◌∷◌, ◌++◌, append-nil}
use Rattle.std.proofs.Math.Dec.{eqb}
use Rattle.std.proofs.Math.IntN.{neg_ℤ-neg_ℤ}
use Rattle.std.proofs.Math.ListN.{length, drop}
use Rattle.words.specs.WordLaws.{Bytes}
use Rattle.nodes.specs.Nodes.{signed_bytes, node_bytes}
use Rattle.nodes.specs.Stored.{number_at, rule_in}
use Rattle.dvi.specs.Commands.{big_endian}
use Rattle.dvi.specs.Body.{body_bytes}
use Rattle.dvi.proofs.BodyLaws.{rule_body_lem}
use Rattle.dvi.specs.Profile.{writable}
use Rattle.dvi.specs.ProfileLaws.{stored_width}
use Rattle.dvi.proofs.ProfileLaws.{facts}
use Rattle.dvi.specs.Forms.{body_number, body_rule, leads}
use Rattle.dvi.specs.FrontLaws.{leads_own}
use Rattle.dvi.specs.LeadLaws.{stored_skip, big_skip, byte_test, last_byte, marked, placed}

-- ---- stored nodes
module _ (s : List ℕ) (room : 18 ≤ length s) (byte : Bytes s) where
  pub stored_rule : writable (rule_in s) ≡ true → (eqb (get_or s 0 0) 82 && eqb (get_or s 1 0) 85) ≡ leads (node_bytes (rule_in s)) s
  unfolding node_bytes
  stored_rule good =
      let width = signed_bytes (number_at 10 s) in
      let thickness = signed_bytes (number_at 14 s) in
      let kept = stored_width (facts (rule_in s) good) in
      let tail : leads (width ++ (thickness ++ [])) (drop 10 s) ≡ true =
      stored_skip 18 s room byte 10 tt (thickness ++ []) ∙ stored_skip 18 s room byte 14 tt [] ∙ leads_own [] (drop 18 s) in
      sym
      (rw (kept, ← append-nil thickness) (marked s room byte 82 85 (width ++ (thickness ++ [])) ∙ rw tail (and-true (eqb (get_or s 0 0) 82 && eqb (get_or s 1 0) 85))))

module _ (s : List ℕ) (byte : Bytes s) where
  pub body_rule_lem : 21 ≤ length s →
      (eqb (get_or s 0 0) 141 && eqb (get_or s 1 0) 146 && eqb (get_or s 6 0) 160 && eqb (get_or s 11 0) 132 && eqb (get_or s 20 0) 142)
      ≡ leads (body_bytes (body_rule s)) s
  body_rule_lem room =
      let tail : leads (132 ∷ (big_endian (body_number 12 s) ++ (big_endian (body_number 16 s) ++ (142 ∷ [])))) (drop 11 s) ≡ (eqb (get_or s 11 0) 132 && eqb (get_or s 20 0) 142) =
      byte_test 21 s room 11 tt 132 _
      ∙ rw (big_skip 21 s room byte 12 tt, big_skip 21 s room byte 16 tt, last_byte 21 s room 20 tt 142) in
      rw (rule_body_lem (body_number 2 s) (neg_ℤ (body_number 7 s)) (body_number 16 s) (body_number 12 s), neg_ℤ-neg_ℤ, placed 21 s room byte 0 tt, tail)
      (simp and_assoc)
