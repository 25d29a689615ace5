-- Stores that pass over the bytes without room.
--     set_past          a store past the end changes nothing
--     sets_append       a run of stores is one part of it, and then the other
--     sets_more         one store more of a run
-- Assumes nothing.
use mathlib.Core.Path.{◌≡◌, refl, sym, ap, ◌∙◌}
use mathlib.Core.List.{List, [], ◌∷◌, ◌++◌}
use Prim.Native.Nat.{ℕ, zero, suc, ◌+◌, ◌≤◌, ◌<◌}
use native.Mathlib.Omega.{arith}
use lib.ListN.{length, take, get_or, set, length-take}
use lib.Seq.{sets}
use Rattle.std.proofs.lemmas.List.{take_more}

pub set_past : (l : List ℕ) (i b : ℕ) → length l ≤ i → set l i b ≡ l
set_past [] i b h = refl
set_past (x ∷ l) zero b h = absurd (omega arith)
set_past (x ∷ l) (suc i) b h = ap (λ (r : List ℕ). x ∷ r) (set_past l i b (omega arith))

pub sets_append : (l : List ℕ) (at : ℕ) (a b : List ℕ) → sets l at (a ++ b) ≡ sets (sets l at a) (at + length a) b
sets_append l at [] b = rw (zero_more)
  where
    zero_more : at + 0 ≡ at
    zero_more = omega arith
sets_append l at (x ∷ a) b =
    let next : at + suc (length a) ≡ suc at + length a = omega arith in
    sets_append (set l at x) (suc at) a b ∙ rw next

pub sets_more : (l : List ℕ) (at : ℕ) (b : List ℕ) (i : ℕ) → i < length b →
    set (sets l at (take i b)) (at + i) (get_or b i 0) ≡ sets l at (take (i + 1) b)
sets_more l at b i h =
    let long : at + length (take i b) ≡ at + i = omega (arith, length-take i b) in
    sym (ap (λ (c : List ℕ). sets l at c) (take_more b i 0 h) ∙ sets_append l at (take i b) (get_or b i 0 ∷ []) ∙ rw long)
