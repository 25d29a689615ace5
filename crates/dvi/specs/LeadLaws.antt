-- Whether some bytes begin with those of a node, place by place: the tests that the code makes.
--     byte_test, byte_skip         a byte that is tested, and one that is taken as it stands
--     stored_skip, big_skip        a number that is taken as it stands
--     marked, placed               the openings of stored nodes, and of a body's
--     stored-glyph, body_glyph_lem     the tests of a glyph
-- Those of a rule are in proofs/LeadLaws.antt.
-- Assumes nothing.
use Rattle.std.specs.Prelude.{◌≡◌, refl, false, ◌&&◌, ℕ, ◌+◌, ◌-◌, ◌*◌, ◌/◌, ◌%◌, ◌≤◌, ◌<◌, T, leb, ltb, neg_ℤ, get_or}
use Rattle.std.proofs.Math.Path.{sym, ap}
use Rattle.std.proofs.Common.{◌∙◌, arith, leb→le, le→leb, lt→ltb, take-append-drop, drop-cons, drop-drop, get_or-drop, length-take-le}
use Rattle.std.proofs.Math.Bool.{true, and_assoc, and-true}
use mathlib.Core.List.{List, [], ◌∷◌, ◌++◌, append_assoc}
use Rattle.std.proofs.Math.Numerals.{add-one}
use borrow.Author.Tests.{eq-eqb, ne_eqb, eqb-true}
use Rattle.std.proofs.Math.Dec.{eqb, ltb→lt}
use Rattle.std.proofs.Math.IntN.{neg_ℤ-neg_ℤ}
use Rattle.std.proofs.Math.ListN.{length, take, drop, length-drop}
use Rattle.laws.specs.Truths.{same_truth}
use Rattle.words.specs.Words.{little_endian, four_bytes}
use Rattle.words.specs.WordLaws.{Bytes, four_back, four_again}
use Rattle.nodes.specs.Nodes.{signed_bytes, node_bytes}
use Rattle.nodes.specs.Stored.{number_at, glyph_in}
use Rattle.dvi.specs.Commands.{big_endian}
use Rattle.dvi.specs.NumberLaws.{stored_again, big_again}
use Rattle.dvi.specs.Body.{body_bytes}
use Rattle.dvi.specs.BodyLaws.{at_place, glyph_body_lem}
use Rattle.dvi.specs.Forms.{body_number, body_glyph, leads}
use Rattle.dvi.specs.FrontLaws.{leads_own, leads_is, leads_append}

module _ (n : ℕ) (s : List ℕ) (room : n ≤ length s) where
  pub byte_test : (k : ℕ) → T (ltb k n) → (a : ℕ) (p : List ℕ) →
      leads (a ∷ p) (drop k s) ≡ (eqb (get_or s k 0) a && leads p (drop (k + 1) s))
  unfolding leads
  byte_test k l a p =
      let in-s : k < length s = omega (arith, ltb→lt k n l) in
      rw (drop-cons s k 0 in-s, add-one k)

  pub byte_skip : (k : ℕ) → T (ltb k n) → (p : List ℕ) → leads (get_or s k 0 ∷ p) (drop k s) ≡ leads p (drop (k + 1) s)
  byte_skip k l p = byte_test k l (get_or s k 0) p ∙ rw (eq-eqb (get_or s k 0) (get_or s k 0) refl)

  pub last_byte : (k : ℕ) → T (ltb k n) → (a : ℕ) → leads (a ∷ []) (drop k s) ≡ eqb (get_or s k 0) a
  unfolding leads
  last_byte k l a = byte_test k l a [] ∙ and-true (eqb (get_or s k 0) a)

  module _ (byte : Bytes s) where
    long : (k : ℕ) → T (leb (k + 4) n) → 4 ≤ length (drop k s)
    long k l = omega (arith, leb→le (k + 4) n l, length-drop k s)

    -- the number at k, by its four bytes
    number_skip : (k : ℕ) → T (leb (k + 4) n) → (b p : List ℕ) → b ≡ take 4 (drop k s) → leads (b ++ p) (drop k s) ≡ leads p (drop (k + 4) s)
    number_skip k l b p is =
        let front = take 4 (drop k s) in
        let own : leads front (drop k s) ≡ true = rw (take-append-drop 4 (drop k s)) at (leads_own front (drop 4 (drop k s))) in
        rw is (leads_append front p (drop k s) ∙ rw (own, length-take-le 4 (drop k s) (long k l), drop-drop 4 k s))

    behind : (k : ℕ) → Bytes (drop k s)
    behind k i = rw (get_or-drop k s i 0) (byte (k + i))

    pub stored_skip : (k : ℕ) → T (leb (k + 4) n) → (p : List ℕ) → leads (signed_bytes (number_at k s) ++ p) (drop k s) ≡ leads p (drop (k + 4) s)
    stored_skip k l p = number_skip k l _ p (stored_again (drop k s) (long k l) (behind k))

    pub big_skip : (k : ℕ) → T (leb (k + 4) n) → (p : List ℕ) → leads (big_endian (body_number k s) ++ p) (drop k s) ≡ leads p (drop (k + 4) s)
    big_skip k l p = number_skip k l _ p (big_again (drop k s) (long k l) (behind k))

-- ---- stored nodes

module _ (s : List ℕ) (room : 18 ≤ length s) (byte : Bytes s) where
  -- a mark, and x and y as they stand
  pub marked : (m m' : ℕ) (p : List ℕ) →
      leads (m ∷ m' ∷ (signed_bytes (number_at 2 s) ++ signed_bytes (number_at 6 s)) ++ p) s
      ≡ (eqb (get_or s 0 0) m && eqb (get_or s 1 0) m' && leads p (drop 10 s))
  marked m m' p =
      byte_test 18 s room 0 tt m _
      ∙ rw (byte_test 18 s room 1 tt m', append_assoc, stored_skip 18 s room byte 2 tt, stored_skip 18 s room byte 6 tt)
      (sym (and_assoc (eqb (get_or s 0 0) m) (eqb (get_or s 1 0) m') (leads p (drop 10 s))))

  -- a word that is 0 has four bytes that are 0
  zero_word : leads (0 ∷ 0 ∷ 0 ∷ 0 ∷ []) (drop 14 s) ≡ eqb (little_endian 4 (drop 14 s)) 0
  unfolding four_bytes
  zero_word =
      let t = drop 14 s in
      let long : 4 ≤ length t = omega (arith, length-drop 14 s) in
      let front = take 4 t in
      same_truth _ _
      (λ h. eq-eqb _ _ (ap (little_endian 4) (leads_is (four_bytes 0) t h) ∙ four_back 0 (drop 4 t) (omega arith)))
      (λ h.
      let zeros : front ≡ four_bytes 0 = sym (four_again t long (behind 18 s room byte 14)) ∙ ap four_bytes (eqb-true _ _ h) in
      rw (take-append-drop 4 t, zeros) at (leads_own front (drop 4 t)))

  pub stored-glyph :
      (eqb (get_or s 0 0) 71 && eqb (get_or s 1 0) 76 && eqb (get_or s 13 0) 0 && eqb (little_endian 4 (drop 14 s)) 0)
      ≡ leads (node_bytes (glyph_in s)) s
  unfolding node_bytes
  stored-glyph =
      sym
      (marked 71 76 _
      ∙ rw (byte_skip 18 s room 10 tt, byte_skip 18 s room 11 tt, byte_skip 18 s room 12 tt, byte_test 18 s room 13 tt, zero_word)
      (sym (and_assoc (eqb (get_or s 0 0) 71 && eqb (get_or s 1 0) 76) (eqb (get_or s 13 0) 0) (eqb (little_endian 4 (drop 14 s)) 0))))

-- ---- a body's commands

module _ (n : ℕ) (s : List ℕ) (room : n ≤ length s) (byte : Bytes s) where
  -- the opening, with its two numbers as they stand
  pub placed : (k : ℕ) → T (leb (k + 11) n) → (p : List ℕ) →
      leads (at_place (body_number (k + 2) s) (body_number (k + 7) s) p) (drop k s)
      ≡ (eqb (get_or s k 0) 141 && (eqb (get_or s (k + 1) 0) 146 && (eqb (get_or s (k + 6) 0) 160 && leads p (drop (k + 11) s))))
  placed k l p =
      let in-s = leb→le (k + 11) n l in
      let two : k + 1 + 1 ≡ k + 2 = omega arith in
      let six : k + 2 + 4 ≡ k + 6 = omega arith in
      let seven : k + 6 + 1 ≡ k + 7 = omega arith in
      let eleven : k + 7 + 4 ≡ k + 11 = omega arith in
      let at : T (ltb k n) = lt→ltb k n (omega arith) in
      let at_1 : T (ltb (k + 1) n) = lt→ltb (k + 1) n (omega arith) in
      let at-2 : T (leb (k + 2 + 4) n) = le→leb (k + 2 + 4) n (omega arith) in
      let at-6 : T (ltb (k + 6) n) = lt→ltb (k + 6) n (omega arith) in
      let at_7 : T (leb (k + 7 + 4) n) = le→leb (k + 7 + 4) n (omega arith) in
      byte_test n s room k at 141 _
      ∙ rw (byte_test n s room (k + 1) at_1 146, two, big_skip n s room byte (k + 2) at-2, six, byte_test n s room (k + 6) at-6 160, seven, big_skip n s room byte (k + 7) at_7, eleven)

module _ (s : List ℕ) (byte : Bytes s) where
  pub body_glyph_lem : 15 ≤ length s → 171 ≤ get_or s 0 0 →
      (eqb (get_or s 1 0) 141 && eqb (get_or s 2 0) 146 && eqb (get_or s 7 0) 160 && eqb (get_or s 12 0) 128 && eqb (get_or s 14 0) 142)
      ≡ leads (body_bytes (body_glyph s)) s
  body_glyph_lem room font =
      let k = get_or s 0 0 - 171 in
      let opcode : 171 + (16 * (k / 16) + k % 16) ≡ get_or s 0 0 = omega arith in
      let tail : leads (128 ∷ get_or s 13 0 ∷ 142 ∷ []) (drop 12 s) ≡ (eqb (get_or s 12 0) 128 && eqb (get_or s 14 0) 142) =
      byte_test 15 s room 12 tt 128 _
      ∙ rw (byte_skip 15 s room 13 tt, last_byte 15 s room 14 tt 142) in
      rw (glyph_body_lem (body_number 3 s) (neg_ℤ (body_number 8 s)) (k / 16) (k % 16) (get_or s 13 0), neg_ℤ-neg_ℤ, opcode, byte_skip 15 s room 0 tt, placed 15 s room byte 1 tt, tail)
      (simp and_assoc)

  -- no font has an opcode below fnt_num_0
  pub low_opcode : 15 ≤ length s → get_or s 0 0 < 171 → false ≡ leads (body_bytes (body_glyph s)) s
  low_opcode room low =
      let k = get_or s 0 0 - 171 in
      let opcode = 171 + (16 * (k / 16) + k % 16) in
      let other : eqb (get_or s 0 0) opcode ≡ false = ne_eqb (get_or s 0 0) opcode (λ e. omega arith) in
      rw (glyph_body_lem (body_number 3 s) (neg_ℤ (body_number 8 s)) (k / 16) (k % 16) (get_or s 13 0), byte_test 15 s room 0 tt, other)
