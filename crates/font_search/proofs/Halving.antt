-- A symbol looked up by halving: what is known of the records on either side of a range that the symbol can still be in.
--     Narrowed        records below a range have lesser keys than the symbol's, those above it greater ones
--     narrowed_whole, narrowed_right, narrowed_left    the whole, and a step to either side of a record
--     found_nowhere   with an empty range no record is the symbol's
-- Assumes nothing.
use mathlib.Core.Path.{◌≡◌, refl}
use mathlib.Core.Bool.{Bool, true, false}
use mathlib.Core.List.{List, []}
use Prim.Native.Nat.{ℕ, ◌+◌, ◌*◌, ◌<◌, ◌≤◌}
use native.Mathlib.Omega.{arith}
use borrow.Author.Tests.{ltb-true, ltb-false}
use lib.Dec.{ltb}
use lib.ListN.{length, get_or}
use Rattle.font.specs.Records.{character_bytes, rising}
use Rattle.font.specs.Finding.{FoundAt, found_none, other_key}
use Rattle.font.specs.Keys.{key_of, key_in, Bytes, AllInBytes, rising_keys}

-- ---- ranges

-- the symbol with the key k is in no record of l before `from`, nor in one from `to` on
pub record Narrowed (l : List (List ℕ)) (k from to : ℕ) : Type 0 where
  pub below : (i : ℕ) → i < from → key_in (get_or l i []) < k
  pub above : (i : ℕ) → to ≤ i → i < length l → k < key_in (get_or l i [])

module _ (l : List (List ℕ)) (bytes : AllInBytes l) (up : rising l ≡ true) (k : ℕ) where
  pub narrowed_whole : (to : ℕ) → length l ≤ to → Narrowed l k 0 to
  narrowed_whole to all = record { below = λ i h. absurd (omega arith); above = λ i h g. absurd (omega arith) }

  -- of two records the later one, or the same twice
  no_later : (i m : ℕ) → i ≤ m → m < length l → key_in (get_or l i []) ≤ key_in (get_or l m [])
  no_later i m g h = go (ltb i m) refl
    where
      go : (t : Bool) → ltb i m ≡ t → key_in (get_or l i []) ≤ key_in (get_or l m [])
      go true e = let earlier = rising_keys l bytes up i m (ltb-true i m e) h in omega arith
      go false e = let same : i ≡ m = omega (arith, ltb-false i m e) in rw same (omega arith)

  pub narrowed_right : (from to m : ℕ) → m < length l → key_in (get_or l m []) < k → Narrowed l k from to → Narrowed l k (m + 1) to
  narrowed_right from to m h less n = record { below = λ i g. let no_more = no_later i m (omega arith) h in omega arith; above = n.above }

  pub narrowed_left : (from to m : ℕ) → k < key_in (get_or l m []) → Narrowed l k from to → Narrowed l k from m
  narrowed_left from to m more n = record { below = n.below; above = λ i g h. let no_less = no_later m i g h in omega arith }

-- ---- an empty range

module _ (l : List (List ℕ)) (bytes : AllInBytes l) (size family code : ℕ) (b : Bytes family code) where
  pub found_nowhere : (from to : ℕ) → to ≤ from → Narrowed l (key_of size family code) from to →
      FoundAt size family code l [] (character_bytes * length l)
  found_nowhere from to h n = found_none size family code l (λ i g. other_key l bytes size family code b i (λ (e : key_in (get_or l i []) ≡ key_of size family code). outside i g e))
    where
      outside : (i : ℕ) → i < length l → key_in (get_or l i []) ≡ key_of size family code → ⊥
      outside i g e = go (ltb i from) refl
        where
          go : (t : Bool) → ltb i from ≡ t → ⊥
          go true low = let less = n.below i (ltb-true i from low) in omega arith
          go false high = let high = ltb-false i from high in let more = n.above i (omega arith) g in omega arith
