-- What the code's masks and stores come to.
--     masked_word      the low half of a length's bits is its word
--     signed_bits      a word read as a signed number
--     bytes_stored     a word's bytes, written over a part
--     pair_stores      two words written one behind the other are a run of bytes
-- Assumes nothing.
use mathlib.Core.Path.{◌≡◌, refl, sym, ap₂, ◌∙◌}
use mathlib.Core.Bool.{Bool, true, false}
use mathlib.Core.List.{List, ◌++◌}
use Prim.Native.Nat.{ℕ, suc, ◌+◌, ◌-◌, ◌/◌, ◌%◌, ◌<◌, ◌≤◌}
use borrow.Author.Tests.{ltb-true, ltb-false}
use lib.Dec.{ltb}
use native.Mathlib.Omega.{arith}
use lib.Bits.{bit_and, and_mask}
use lib.IntN.{ℤ, pos, negsuc}
use lib.ListN.{length, take, drop}
use Rattle.std.proofs.Common.{append_assoc}
use lib.Seq.{sets}
use mir.Syntax.{w32, w64}
use mir.Val.{SFits, to_z, of_z}
use mir.ValLaws.{to_z_pos}
use Rattle.std.specs.Int.{to_le_bytes}
use Rattle.std.proofs.lemmas.List.Edits.{sets-eq}
use borrow.Rule.Slice.PartMut.{put_mid, Post-is}
use Rattle.scaled.specs.Linear.{#, ◌⊖◌}
use Rattle.scaled.proofs.Linear.{eq_by}
use Rattle.words.specs.Words.{word_range, signed_word, word_of, four_bytes}
use Rattle.words.specs.WordLaws.{signed_small, signed_great, word_below}

low_half : (z : ℤ) → SFits w64 z → of_z w64 z % word_range ≡ word_of z
unfolding word_of
low_half (pos n) fit = refl
low_half (negsuc n) fit = omega arith

pub masked_word : (z : ℤ) → SFits w64 z → to_z w64 (bit_and (of_z w64 z) 0xffff_ffff) ≡ pos (word_of z)
masked_word z fit =
    let low : bit_and (of_z w64 z) 0xffff_ffff ≡ word_of z = and_mask (of_z w64 z) 32 ∙ low_half z fit in
    rw low (to_z_pos w64 (word_of z) (omega (arith, word_below z)))

-- four bytes read as a signed number
pub signed_bits : (w : ℕ) → w < word_range → to_z w32 w ≡ signed_word w
signed_bits w l = go (ltb w (word_range / 2)) refl
  where
    go : (t : Bool) → ltb w (word_range / 2) ≡ t → to_z w32 w ≡ signed_word w
    go true e =
        let small = ltb-true w (word_range / 2) e in
        to_z_pos w32 w (omega arith) ∙ sym (signed_small w (omega arith))
    go false e =
        let great = ltb-false w (word_range / 2) e in
        rw e (eq_by (# (negsuc (word_range - suc w))) (# (pos w) ⊖ # (pos word_range)) (omega arith))
        ∙ sym (signed_great w (omega arith))

bytes_are : (w : ℕ) → to_le_bytes w32 w ≡ four_bytes w
unfolding four_bytes
bytes_are w = refl

pub bytes_stored : (b ys : List ℕ) (k w : ℕ) → k + 4 ≤ length b → ys ≡ to_le_bytes w32 w → put_mid k (k + 4 - k) b ys ≡ sets b k (four_bytes w)
unfolding four_bytes
bytes_stored b ys k w h e =
    ap₂ (λ (zs behind : List ℕ). take k b ++ (zs ++ behind)) (e ∙ bytes_are w) (Post-is k (k + 4) b (omega arith))
    ∙ sym (append_assoc (take k b) (four_bytes w) (drop (k + 4) b))
    ∙ sym (sets-eq (four_bytes w) b k h)

pub pair_stores : (b : List ℕ) (k p q : ℕ) →
    sets (sets b k (four_bytes p)) (k + 4) (four_bytes q) ≡ sets b k (four_bytes p ++ four_bytes q)
unfolding four_bytes
pair_stores b k p q =
    let e : k + 4 ≡ suc (suc (suc (suc k))) = omega arith in
    rw e
