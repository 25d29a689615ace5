-- Laws of parts of a list that the kit's `lib.Seq` lacks.
--     take_within    a part of the front of a list is that part of the list
-- Assumes nothing.
use Rattle.std.specs.Prelude.{◌≡◌, refl, List, [], ◌∷◌, ℕ, zero, suc, ◌+◌, ◌≤◌, take, drop}
use Rattle.std.proofs.Common.{arith, take-take}

pub take_within : {A : Type 0} (k n N : ℕ) (s : List A) → k + n ≤ N → take n (drop k (take N s)) ≡ take n (drop k s)
take_within zero n N s h = take-take n N s (omega arith)
take_within (suc k) n zero s h = absurd (omega arith)
take_within (suc k) n (suc N) [] h = refl
take_within (suc k) n (suc N) (a ∷ s) h = take_within k n N s (omega arith)
