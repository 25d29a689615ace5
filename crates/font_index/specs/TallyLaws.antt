-- How many records pass a test.
--     tally_none    none, where none passes it
--     tally_sum     where one test is passed by those that pass either of two
--     tally_le      no more than there are
-- Assumes nothing.
use Rattle.std.specs.Prelude.{◌≡◌, refl, Bool, true, false, List, [], ◌∷◌, ℕ, suc, ◌+◌, ◌<◌, ◌≤◌, length, get_or}
use Rattle.std.proofs.Common.{ap₂, arith}
use Rattle.font_index.specs.Index.{one, tally}

pub tally_none : (t : List ℕ → Bool) (l : List (List ℕ)) → ((i : ℕ) → i < length l → t (get_or l i []) ≡ false) → tally t l ≡ 0
unfolding tally
tally_none t [] fails = refl
tally_none t (r ∷ l) fails = ap₂ (λ (b : Bool) (n : ℕ). one b + n) (fails 0 (omega arith)) (tally_none t l (λ i h. fails (suc i) (omega arith)))

-- one test is passed where either of two is
pub tally_sum : (t u v : List ℕ → Bool) (l : List (List ℕ)) →
    ((i : ℕ) → i < length l → one (t (get_or l i [])) ≡ one (u (get_or l i [])) + one (v (get_or l i []))) → tally t l ≡ tally u l + tally v l
unfolding tally
tally_sum t u v [] split = refl
tally_sum t u v (r ∷ l) split =
    let here = split 0 (omega arith) in
    let rest = tally_sum t u v l (λ i h. split (suc i) (omega arith)) in
    omega arith

pub tally_le : (t : List ℕ → Bool) (l : List (List ℕ)) → tally t l ≤ length l
unfolding tally
tally_le t [] = omega arith
tally_le t (r ∷ l) = let rest = tally_le t l in by_one (t r) (tally t l) (length l) rest
  where
    by_one : (b : Bool) (m n : ℕ) → m ≤ n → one b + m ≤ suc n
    by_one true m n h = omega arith
    by_one false m n h = omega arith
